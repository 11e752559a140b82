-- The ports so far gave no answer.
use Rattle.ring_client.specs.Asking.{just_submitted}
use Rattle.ring_client.specs.Outcomes.{HaveNoAnswer}
use Rattle.ring_client.proofs.port_trials.submit_in_order.Given as goal

abbrev pub invariant-loop-i : goal.invariant-loop-i
invariant-loop-i g l = HaveNoAnswer g.P.Port.asked_of (just_submitted l.request.client l.request.number l.request.op) l.turns l.initial.ports l.ports l.i
