use Rattle.std.proofs.Common.{◌≡◌, ℕ, ◌-◌, ◌<◌, ◌≤◌, true}
use Rattle.ring_window.specs.Bits.{is_set}
use Rattle.ring_window.proofs.held_bits.HeldBits.first_clear.Given as goal

abbrev pub invariant-loop-offset : goal.invariant-loop-offset
invariant-loop-offset l = (l.from ≤ l.offset) × ((j : ℕ) → l.from ≤ j → j < l.offset → is_set l.self.words j ≡ true)

abbrev pub decreases-loop-offset : goal.decreases-loop-offset
decreases-loop-offset l = 256 - l.offset
