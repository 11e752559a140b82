-- The polls so far gave no answer.
use Rattle.std.proofs.Common.{◌≡◌}
use Rattle.ring_client.specs.Asking.{asked_after_submit}
use Rattle.ring_client.proofs.port_trials.submit_and_poll.Given as goal

abbrev pub invariant-loop : goal.invariant-loop
invariant-loop g l = g.P.Port.asked_of l.port ≡ record (asked_after_submit l.fn.call) { polls = l.counter }
