-- One step over the members of a set: the smallest is taken out, and a set with a smallest member has a member.
use Rattle.std.proofs.Common.{◌≡◌, ℕ, ◌<◌, ◌≤◌, List, [], ◌∷◌, length, slice_index, arith, ap}
use Rattle.ring_base.specs.Processors.{IsProc, IsMember, only, less, elements, size, smallest}
use Rattle.ring_base.specs.Elements.{elements-first, position_of-inside}

pub elements-taken : (set first one rest : ℕ) → first ≡ smallest set → IsProc first × IsMember set first
    → one ≡ only first → rest ≡ less set one → elements set ≡ first ∷ elements rest
elements-taken set first one rest least m alone left =
    let some : 0 < size set = omega (arith, position_of-inside set first m.0 m.1) in
    rw (left, alone, least) (elements-first set some)

pub fewer : (set first rest : ℕ) → elements set ≡ first ∷ elements rest → length (elements rest) < length (elements set)
fewer set first rest taken = omega (arith, ap length taken)

-- a list whose first number, 0 if there is none, is not 0 has an element
some_first : (xs : List ℕ) (n : ℕ) → 1 ≤ n → slice_index xs 0 ≡ n → 0 < length xs
some_first [] n low e = absurd (omega arith)
some_first (x ∷ xs) n low e = omega arith

-- a set with a smallest member has a member
pub smallest_some : (set me : ℕ) → 1 ≤ me → smallest set ≡ me → 0 < size set
smallest_some set me low e = some_first (elements set) me low e
