-- The messages that a node ever held of the rings, and the front of a ring. All messages are in one list, newest first;
-- none is ever removed.
-- Rules: Token and window 1, 2 and 4
use Rattle.std.specs.Prelude.{◌≡◌, ℕ, suc, ◌+◌, ◌-◌, ◌≤◌, min, Bool, true, false, not, ◌&&◌, ◌==◌, nat_lt, nat_le, List, map, filter, find, Option}
use Rattle.std.specs.List.{list_any, prefix_len}
use Rattle.ring_base.specs.Numbers.{window_size, numbers_from, greatest}
use Rattle.ring_base.specs.Rings.{same_ring}
use Rattle.ring_base.specs.declared.ring_id.RingId.{RingId}
use Rattle.ring_wire.specs.declared.message.Message.{Message}

-- Whether the message belongs to this ring and has number n.
abbrev pub is_numbered : {A : Type 0} → RingId → ℕ → Message A → Bool
is_numbered ring n x = same_ring x.ring ring && (x.number == n)

-- Message n of the ring, if it was held.
abbrev pub found : {A : Type 0} → List (Message A) → RingId → ℕ → Option (Message A)
found held ring n = find (is_numbered ring n) held

-- Token and window 1: whether number n of the ring was held.
abbrev pub holds : {A : Type 0} → List (Message A) → RingId → ℕ → Bool
holds held ring n = list_any (is_numbered ring n) held

-- The messages of one ring.
abbrev pub of_ring : {A : Type 0} → RingId → List (Message A) → List (Message A)
of_ring ring held = filter (λ x. same_ring x.ring ring) held

-- The greatest number held of a ring, 0 if there is none.
abbrev pub highest : {A : Type 0} → List (Message A) → RingId → ℕ
highest held ring = greatest (map (λ (x : Message _). x.number) (of_ring ring held))

-- Token and window 2: the front, the greatest k such that 1 to k were held. No number above the highest is tried.
abbrev pub front_of : {A : Type 0} → List (Message A) → RingId → ℕ
front_of held ring = prefix_len (holds held ring) (numbers_from 1 (highest held ring))

-- k is the front: each number up to it was held, and the next was not.
pub record IsFrontIn {A : Type 0} (held : List (Message A)) (ring : RingId) (k : ℕ) : Type 0 where
  pub below : (n : ℕ) → 1 ≤ n → n ≤ k → holds held ring n ≡ true
  pub next : holds held ring (suc k) ≡ false

-- Token and window 4: the window, the 256 numbers after the safe mark.
abbrev pub in_window : ℕ → ℕ → Bool
in_window mark n = nat_lt mark n && nat_le n (mark + window_size)

-- Token and window 4: a number is new if it lies in the window and was not held.
abbrev pub is_new : {A : Type 0} → List (Message A) → ℕ → RingId → ℕ → Bool
is_new held mark ring n = in_window mark n && not (holds held ring n)

-- The numbers of the window up to `upto` that were not held.
abbrev pub missing : {A : Type 0} → List (Message A) → RingId → ℕ → ℕ → List ℕ
missing held ring mark upto = filter (λ n. not (holds held ring n)) (numbers_from (mark + 1) (min window_size (upto - mark)))
