-- The limits of numbers. Also successors, ranges, ascending lists, and numbers as words of bits.
-- Rules: Limits 1
use Rattle.std.specs.Prelude.{ℕ, zero, suc, ◌+◌, ◌-◌, ◌*◌, ◌^◌, min, max, Bool, ◌==◌, nat_lt, if◌then◌else◌, List, [], ◌∷◌}
use Rattle.std.specs.Int.{bit_at}

-- the greatest number of a ring, a message, a token or a ticket: 2 ^ 62
abbrev pub max_number : ℕ
max_number = 4611686018427387904

-- the length of the window: the number of message numbers after its safe mark that a node takes
abbrev pub window_size : ℕ
window_size = 256

-- the maximum length of an encoded frame, in bytes
abbrev pub max_frame_bytes : ℕ
max_frame_bytes = 8192

-- the maximum number of new messages of one visit
abbrev pub visit_limit : ℕ
visit_limit = 8

-- the successor of a u64, which saturates at 2 ^ 64 - 1
abbrev pub saturating_successor : ℕ → ℕ
saturating_successor n = min (n + 1) (2 ^ 64 - 1)

-- the `count` numbers from `first` on, ascending
abbrev pub numbers_from : ℕ → ℕ → List ℕ
numbers_from first zero = []
numbers_from first (suc count) = first ∷ numbers_from (suc first) count

-- an ascending list with a number inserted, unless the list has it already
abbrev pub insert_ascending : ℕ → List ℕ → List ℕ
insert_ascending n [] = n ∷ []
insert_ascending n (x ∷ xs) = if nat_lt n x then n ∷ x ∷ xs else if n == x then x ∷ xs else x ∷ insert_ascending n xs

-- the union of two lists as an ascending list without repeats; the second list must ascend
abbrev pub merged_ascending : List ℕ → List ℕ → List ℕ
merged_ascending [] ys = ys
merged_ascending (x ∷ xs) ys = insert_ascending x (merged_ascending xs ys)

-- the greatest of the numbers, 0 for the empty list
abbrev pub greatest : List ℕ → ℕ
greatest [] = 0
greatest (x ∷ xs) = max x (greatest xs)

-- whether bit j of a word is 1; bit 0 is the bit of value 1
abbrev pub has_bit : ℕ → ℕ → Bool
has_bit word j = bit_at word j == 1

-- the word of `count` bits whose bit j is the result of the test at first + j
abbrev pub word_from_test : (ℕ → Bool) → ℕ → ℕ → ℕ
word_from_test test first zero = 0
word_from_test test first (suc count) = (if test first then 1 else 0) + 2 * word_from_test test (suc first) count
