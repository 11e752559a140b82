-- The bits so far are clear.
use Rattle.std.proofs.Common.{◌≡◌, ℕ, ◌<◌, ◌≤◌, false}
use Rattle.ring_window.specs.Bits.{is_set}
use Rattle.ring_recover.proofs.offsets.Offsets.first_from.Given as goal

abbrev pub invariant-loop-j : goal.invariant-loop-j
invariant-loop-j l = (i : ℕ) → l.from ≤ i → i < l.j → is_set l.self.words i ≡ false
