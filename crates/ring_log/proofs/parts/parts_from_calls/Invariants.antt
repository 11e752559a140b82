use Rattle.std.proofs.Common.{◌≡◌}
use Rattle.std.specs.Prelude.{map}
use Rattle.ring_base.specs.Numbers.{numbers_from}
use Rattle.ring_log.specs.Parts.{nth_part}
use Rattle.ring_log.proofs.parts.parts_from_calls.Given as goal

-- the Parts built so far
abbrev pub invariant-loop-k : goal.invariant-loop-k
invariant-loop-k g l = l.parts.items ≡ map (nth_part l.at l.places) (numbers_from 0 l.k)
