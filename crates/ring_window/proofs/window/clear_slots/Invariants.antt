use Rattle.std.proofs.Common.{◌≡◌, ℕ, ◌+◌, ◌<◌, ◌≤◌, length, None}
use Rattle.ring_window.specs.Slots.{message_in_slot}
use Rattle.ring_window.proofs.window.clear_slots.Given as goal

abbrev pub invariant-loop-before : goal.invariant-loop-before
invariant-loop-before g l =
    (length l.places.items ≡ 256)
    × ((n : ℕ) → l.mark < n → n ≤ l.before → message_in_slot l.places.items n ≡ None)
    × ((n : ℕ) → l.before < n → n ≤ l.mark + 256 → message_in_slot l.places.items n ≡ message_in_slot l.fn.places.items n)
