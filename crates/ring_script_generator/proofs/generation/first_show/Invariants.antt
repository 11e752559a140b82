use Rattle.std.proofs.Common.{ℕ, ◌<◌}
use Rattle.std.specs.Prelude.{◌≢◌, slice_index_or}
use Rattle.ring_script.specs.declared.line.ScriptLine.TheVariants.{Show}
use Rattle.ring_script.specs.declared.scripts.NumberedLine.{NumberedLine}
use Rattle.ring_script_generator.proofs.generation.first_show.Given as goal

-- No line so far is `show`.
abbrev pub invariant-loop-place : goal.invariant-loop-place
invariant-loop-place g l = (k : ℕ) (line : NumberedLine g.row.A.Denot) → k < l.place → (slice_index_or l.lines k line).line ≢ Show
