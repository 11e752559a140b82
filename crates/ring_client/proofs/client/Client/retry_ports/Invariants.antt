-- The tries so far gave no answer.
use Rattle.std.proofs.Common.{◌≡◌}
use Rattle.ring_client.specs.Calling.{AreUnansweredTries}
use Rattle.ring_client.proofs.client.Client.retry_ports.Given as goal

abbrev pub invariant-loop : goal.invariant-loop
invariant-loop g l = record {
  in_vain : AreUnansweredTries g.P.Port.asked_of l.op l.counter l.fn.self l.self;
  same_number : l.self.next ≡ l.fn.self.next;
}
