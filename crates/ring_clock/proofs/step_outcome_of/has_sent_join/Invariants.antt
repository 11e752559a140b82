-- The remaining frames decide.
use Rattle.std.proofs.Common.{◌≡◌, drop}
use Rattle.std.specs.List.{list_any}
use Rattle.ring_clock.specs.StepOutcomes.{is_join}
use Rattle.ring_clock.proofs.step_outcome_of.has_sent_join.Given as goal

abbrev pub invariant-loop-sent : goal.invariant-loop-sent
invariant-loop-sent g l = list_any is_join (drop l.sent-index l.sends) ≡ list_any is_join l.sends
