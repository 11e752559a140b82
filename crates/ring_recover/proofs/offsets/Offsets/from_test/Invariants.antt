-- The bits of the numbers so far that pass are set, and no others.
use Rattle.std.proofs.Common.{◌≡◌, ℕ, ◌<◌, ◌≤◌, Bool, false}
use Rattle.ring_window.specs.Bits.{is_set}
use Rattle.ring_recover.proofs.offsets.Offsets.from_test.Given as goal

abbrev pub invariant-loop-j : goal.invariant-loop-j
invariant-loop-j g l =
    ((t : ℕ → Bool) → ((j : ℕ) (r : Bool) → j < 256 → goal.F-post g l.test j r → r ≡ t j) → (i : ℕ) → i < l.j → is_set l.offsets.words i ≡ t i)
    × ((i : ℕ) → l.j ≤ i → is_set l.offsets.words i ≡ false)
