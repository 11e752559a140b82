use Rattle.std.proofs.Common.{◌≡◌}
use Rattle.std.specs.Prelude.{map}
use Rattle.ring_base.specs.Numbers.{numbers_from}
use Rattle.ring_log.specs.Parts.{nth_piece}
use Rattle.ring_log.proofs.pieces.pieces_of.Given as goal

-- the pieces built so far
abbrev pub invariant-loop-k : goal.invariant-loop-k
invariant-loop-k g l = l.pieces.items ≡ map (nth_piece l.at l.bytes) (numbers_from 0 l.k)
