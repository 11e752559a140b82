-- The messages so far were sent with consecutive numbers, and are held.
use Rattle.std.proofs.Common.{◌≡◌, ◌+◌, ◌++◌, length}
use Rattle.ring_core_spec.specs.Giving.{sends_with_receivers}
use Rattle.ring_core_spec.specs.Visiting.{to_others}
use Rattle.ring_srp_transitions.specs.Sending.{messages_of_payloads, holding}
use Rattle.ring_srp_transitions.proofs.running_core.RunningCore.send_each_new.Given as goal

abbrev pub invariant-loop-payload : goal.invariant-loop-payload
invariant-loop-payload g l = record {
  number : l.number ≡ l.token.seq + length l.yielded;
  told : l.fresh.value ≡ l.yielded;
  held : l.self ≡ holding l.fn.self l.token l.yielded;
  out : l.sends.items ≡ l.fn.sends.items ++ sends_with_receivers (to_others l.fn.self (messages_of_payloads l.fn.self l.token l.yielded));
}
