-- Processors, and sets of them. A set is a word: processor i is the bit of value 2 ^ (i - 1).
-- Rules: Processors and sets 2 and 3
use Rattle.std.specs.Prelude.{◌≡◌, ℕ, ◌+◌, ◌-◌, ◌%◌, ◌^◌, ◌≤◌, Bool, ◌==◌, nat_lt, List, length, filter, bit_and, bit_or, slice_index}
use Rattle.std.specs.Int.{bit_at}
use Rattle.ring_base.specs.Numbers.{numbers_from, has_bit}

-- the maximum number of processors of a group
abbrev pub max_processors : ℕ
max_processors = 16

-- the number is a processor: 1 to 16
abbrev pub IsProc : ℕ → Type 0
IsProc i = (1 ≤ i) × (i ≤ max_processors)

-- processor i is a member of the set
abbrev pub IsMember : ℕ → ℕ → Type 0
IsMember set i = (1 ≤ i) × (bit_at set (i - 1) ≡ 1)

-- each member of the first set is a member of the second
abbrev pub IsSubset : ℕ → ℕ → Type 0
IsSubset a b = (i : ℕ) → IsMember a i → IsMember b i

-- whether processor i is a member, as a test
abbrev pub has : ℕ → ℕ → Bool
has set i = has_bit set (i - 1)

-- whether the first set is a subset of the second, as a test
abbrev pub within : ℕ → ℕ → Bool
within a b = bit_and a b == a

-- the empty set
abbrev pub nobody : ℕ
nobody = 0

-- the set that contains only processor i
abbrev pub only : ℕ → ℕ
only i = 2 ^ (i - 1)

-- the set of the processors 1 to n
abbrev pub everybody : ℕ → ℕ
everybody n = 2 ^ n - 1

-- the union
abbrev pub union : ℕ → ℕ → ℕ
union a b = bit_or a b

-- the intersection
abbrev pub intersection : ℕ → ℕ → ℕ
intersection a b = bit_and a b

-- the difference: the members of the first set that the second lacks
abbrev pub less : ℕ → ℕ → ℕ
less a b = a - bit_and a b

-- the members, in ascending order. To compute with it, name it in an `unfolding` line.
unfoldable pub elements : ℕ → List ℕ
elements set = filter (has set) (numbers_from 1 max_processors)

-- the number of members
abbrev pub size : ℕ → ℕ
size set = length (elements set)

-- the member at a position in ascending order, counted from 0; 0 past the last member
abbrev pub at : ℕ → ℕ → ℕ
at set position = slice_index (elements set) position

-- the number of members below processor i, which is its position if it is a member
abbrev pub position_of : ℕ → ℕ → ℕ
position_of set i = length (filter (λ j. nat_lt j i) (elements set))

-- the smallest member, 0 if there is none
abbrev pub smallest : ℕ → ℕ
smallest set = at set 0

-- the next member after i, cyclically
abbrev pub next : ℕ → ℕ → ℕ
next set i = at set ((position_of set i + 1) % size set)
