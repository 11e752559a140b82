-- The messages sent so far, and those of the remaining numbers, are all.
use Rattle.ring_srp_transitions.proofs.Visits.{AreRepeated}
use Rattle.ring_srp_transitions.proofs.running_core.RunningCore.repeat_requested.Given as goal

abbrev pub invariant-loop-number : goal.invariant-loop-number
invariant-loop-number g l = AreRepeated l.self l.token l.fn.sends.items l.sends.items l.number-index
