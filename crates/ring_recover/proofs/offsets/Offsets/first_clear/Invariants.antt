-- The bits so far are set.
use Rattle.std.proofs.Common.{◌≡◌, ℕ, ◌<◌, true}
use Rattle.ring_window.specs.Bits.{is_set}
use Rattle.ring_recover.proofs.offsets.Offsets.first_clear.Given as goal

abbrev pub invariant-loop-j : goal.invariant-loop-j
invariant-loop-j l = (i : ℕ) → i < l.j → is_set l.self.words i ≡ true
