-- The numbers so far are held.
use Rattle.std.proofs.Common.{◌≡◌, ℕ, ◌+◌, ◌<◌, true}
use Rattle.ring_window.specs.Bits.{is_set}
use Rattle.ring_window.specs.Held.{holds}
use Rattle.ring_recover.proofs.plan.holds_all_offsets.Given as goal

abbrev pub invariant-loop-j : goal.invariant-loop-j
invariant-loop-j g l = (i : ℕ) → i < l.j → is_set l.offsets.words i ≡ true → holds l.window.held l.window.ring (l.after + 1 + i) ≡ true
