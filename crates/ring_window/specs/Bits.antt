-- Held numbers as bits. A window has four words of 64 bits, one bit for each number after the safe mark. A commit entry
-- has a bit for each of the 256 numbers after the front.
-- Rules: The commit token 2
-- Formats: The commit entry
use Rattle.std.specs.Prelude.{◌≡◌, ℕ, zero, suc, ◌+◌, ◌/◌, ◌%◌, ◌<◌, ◌≤◌, Bool, true, false, List, [], ◌∷◌, slice_index}
use Rattle.ring_base.specs.Numbers.{has_bit, word_from_test}
use Rattle.ring_base.specs.declared.ring_id.RingId.{RingId}
use Rattle.ring_wire.specs.declared.message.Message.{Message}
use Rattle.ring_window.specs.Held.{holds, front_of}

-- `count` bytes of eight tests each, from `first` on. The first test of a byte is its lowest bit.
abbrev pub bytes_from_bits : (ℕ → Bool) → ℕ → ℕ → List ℕ
bytes_from_bits test first zero = []
bytes_from_bits test first (suc count) = word_from_test test first 8 ∷ bytes_from_bits test (first + 8) count

-- The held bits of a commit entry: bit j stands for the number front + 1 + j.
abbrev pub held_bits : {A : Type 0} → List (Message A) → RingId → List ℕ
held_bits held ring = bytes_from_bits (holds held ring) (front_of held ring + 1) 32

-- Bit j of words of 64 bits, from the lowest bit of the first word on; bits past the last word are clear.
abbrev pub is_set : List ℕ → ℕ → Bool
is_set words j = has_bit (slice_index words (j / 64)) (j % 64)

-- k is the first clear bit at or after `from`.
pub record IsFirstClear (words : List ℕ) (from k : ℕ) : Type 0 where
  pub later : from ≤ k
  pub set : (j : ℕ) → from ≤ j → j < k → is_set words j ≡ true
  pub clear : is_set words k ≡ false
