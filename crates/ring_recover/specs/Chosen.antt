-- Sets of numbers as bits: of the 256 numbers after a given one, those whose bit is set.
use Rattle.std.specs.Prelude.{◌≡◌, ℕ, ◌+◌, ◌-◌, ◌^◌, ◌<◌, ◌≤◌, ◌≢◌, Bool, true, false, List, filter}
use Rattle.ring_base.specs.Numbers.{window_size, numbers_from}
use Rattle.ring_window.specs.Bits.{is_set}

-- The bit of number n is set. There are four words of 64 bits; the lowest bit of the first word stands for `after` + 1.
abbrev pub is_chosen : ℕ → List ℕ → ℕ → Bool
is_chosen after words n = is_set words (n - (after + 1))

-- The numbers of the set from an offset on, ascending.
abbrev pub chosen_from : ℕ → List ℕ → ℕ → List ℕ
chosen_from after words offset = filter (is_chosen after words) (numbers_from (after + 1 + offset) (window_size - offset))

-- The numbers of the set, ascending.
abbrev pub numbers_of_bits : ℕ → List ℕ → List ℕ
numbers_of_bits after words = filter (is_chosen after words) (numbers_from (after + 1) window_size)

-- Each number of the set fits a word of 64 bits.
abbrev pub AreWords : ℕ → List ℕ → Type 0
AreWords after words = (j : ℕ) → is_set words j ≡ true → after + 1 + j < 2 ^ 64

-- k is the least offset from `from` on whose bit is set, 256 if there is none.
pub record IsFirstSet (words : List ℕ) (from k : ℕ) : Type 0 where
  pub later : from ≤ k
  pub inside : k ≤ window_size
  pub clear : (j : ℕ) → from ≤ j → j < k → is_set words j ≡ false
  pub set : k ≢ window_size → is_set words k ≡ true
