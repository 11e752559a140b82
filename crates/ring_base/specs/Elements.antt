-- Laws of the members of a set as an ascending list: which they are, the position of each, and how many there are.
-- Rules: Processors and sets 3
use Rattle.std.proofs.Common.{◌≡◌, ◌≢◌, ℕ, zero, suc, ◌-◌, ◌^◌, ◌/◌, ◌<◌, ◌≤◌, [], ◌∷◌, length, arith, inl, inr, refl, ap, ◌∙◌, subst}
use Rattle.std.specs.Prelude.{◌↔◌, ◌&&◌, nat_lt, Contains, slice_index, count_ones}
use Rattle.std.specs.Cmp.{both_ways}
use Rattle.std.specs.Int.{bit_at}
use Rattle.std.specs.List.Sorted.{IsStrictlyIncreasing}
use Rattle.std.proofs.lemmas.Bool.{cases_lt, cases_Bool, eqb-true, eqb-false, ltb-true, lt-ltb, and_parts, and_from}
use Rattle.std.proofs.lemmas.List.{get_or_default}
use Rattle.std.proofs.lemmas.List.Kept.{IsStrictlyIncreasing-filter, AllPairs-from_increasing}
use Rattle.std.proofs.lemmas.Nat.Bits.{bit_at-lt}
use native.Mathlib.Nat.{pow-suc, div-div-eq-div-mul, div-one}
use lib.Count.{ones_step, ones-le}
use Rattle.ring_base.specs.Numbers.{numbers_from}
use Rattle.ring_base.specs.FilteredRanges.{IsStrictlyIncreasing-numbers_from, filtered_range, few, stands, place, before-at, passing_same, passing_before, passing_first}
use Rattle.ring_base.specs.Processors.{IsProc, IsMember, max_processors, has, nobody, only, everybody, intersection, less, elements, size, at, position_of, smallest}
use Rattle.ring_base.specs.Members.{has_member, member_had, only_members, everybody_members, intersection_members, less_members}

-- ---- the members and their positions

-- the elements of a set ascend strictly
pub IsStrictlyIncreasing-elements : (set : ℕ) → IsStrictlyIncreasing (elements set)
unfolding elements
IsStrictlyIncreasing-elements set = IsStrictlyIncreasing-filter (has set) (numbers_from 1 max_processors) (IsStrictlyIncreasing-numbers_from 1 max_processors)

-- the element at a position below the size is a member
pub at_member : (set k : ℕ) → k < size set → IsProc (at set k) × IsMember set (at set k)
unfolding elements
at_member set k lt =
    let s = stands (has set) 1 max_processors k lt in
    ((s.low, omega (arith, s.high)), member_had set (at set k) s.low s.passes)

-- the position of a member is inside the list
pub position_of-inside : (set i : ℕ) → IsProc i → IsMember set i → position_of set i < size set
unfolding elements
position_of-inside set i proc m = (place (has set) 1 max_processors i proc.0 (omega (arith, proc.1)) (has_member set i m)).inside

-- a member is at its position
pub at-position_of : (set i : ℕ) → IsProc i → IsMember set i → at set (position_of set i) ≡ i
unfolding elements
at-position_of set i proc m = (place (has set) 1 max_processors i proc.0 (omega (arith, proc.1)) (has_member set i m)).there

-- the position of the member at k is k
pub position_of-at : (set k : ℕ) → k < size set → position_of set (at set k) ≡ k
unfolding elements
position_of-at set k lt = before-at (has set) 1 max_processors k lt

-- a set has at most 16 members
pub size_le : (set : ℕ) → size set ≤ max_processors
unfolding elements
size_le set = few (has set) 1 max_processors

-- members ascend
pub at-ascends : (set j k : ℕ) → j < k → k < size set → at set j < at set k
at-ascends set j k lt inside = AllPairs-from_increasing (elements set) (IsStrictlyIncreasing-elements set) j k 0 lt inside

-- no member is below the smallest
pub smallest_le : (set i : ℕ) → IsProc i → IsMember set i → smallest set ≤ i
smallest_le set i proc m =
    let inside = position_of-inside set i proc m in
    let there = at-position_of set i proc m in
    elim (cases_lt 0 (position_of set i)) [
      | inl later ↦ omega (arith, at-ascends set 0 (position_of set i) later inside, there)
      | inr front ↦
          let none : position_of set i ≡ 0 = omega (arith, front) in
          let same : smallest set ≡ i = subst (λ (k : ℕ). at set k ≡ i) none there in
          omega (arith, same)
    ]

-- the member that no other is below is the smallest
pub smallest-least : (set i : ℕ) → IsProc i → IsMember set i → ((j : ℕ) → IsMember set j → i ≤ j) → smallest set ≡ i
smallest-least set i proc m least =
    let first = at_member set 0 (omega (arith, position_of-inside set i proc m)) in
    omega (arith, smallest_le set i proc m, least (smallest set) first.1)

-- the elements are exactly the processors that are members
pub elements_members : (set i : ℕ) → Contains (elements set) i ↔ (IsProc i × IsMember set i)
elements_members set i = (
  λ found.
      let there : slice_index (elements set) found.0 ≡ i = get_or_default (elements set) found.0 0 i found.1 ∙ found.2 in
      let m = at_member set found.0 found.1 in
      subst (λ (x : ℕ). IsProc x × IsMember set x) there m,
  λ m.
      let inside = position_of-inside set i m.0 m.1 in
      let there = at-position_of set i m.0 m.1 in
      (position_of set i, inside, get_or_default (elements set) (position_of set i) i 0 inside ∙ there),
)

-- ---- the members in the code's terms

-- the number of members is the number of ones in a word of 16 bits
ones-filtered_range : (set k n : ℕ) → set / 2 ^ k < 2 ^ n → length (filtered_range (has set) (suc k) n) ≡ count_ones (set / 2 ^ k)
ones-filtered_range set k zero lt = let none = ones-le 0 (set / 2 ^ k) lt in omega arith
ones-filtered_range set k (suc n) lt =
    let place : suc k - 1 ≡ k = omega arith in
    let half : set / 2 ^ k / 2 ≡ set / 2 ^ suc k = rw (pow-suc, div-div-eq-div-mul) refl in
    let double = pow-suc 2 n in
    let small : set / 2 ^ suc k < 2 ^ n = rw (← half) (omega arith) in
    let rest = ones-filtered_range set (suc k) n small in
    let step = ones_step (set / 2 ^ k) in
    let others = ap count_ones half in
    let one = bit_at-lt set k in
    elim (cases_Bool (has set (suc k))) [
      | inl pass ↦ rw pass (let bit : bit_at set k ≡ 1 = rw place at (eqb-true _ _ pass) in omega arith)
      | inr fail ↦ rw fail (let none : bit_at set k ≢ 1 = rw place at (eqb-false _ _ fail) in omega arith)
    ]

-- the size of a set is the number of ones in its word
pub size-ones : (set : ℕ) → set < 2 ^ 16 → size set ≡ count_ones set
unfolding elements
size-ones set lt =
    let whole : set / 2 ^ 0 ≡ set = div-one set in
    subst (λ (x : ℕ). size set ≡ count_ones x) whole (ones-filtered_range set 0 max_processors (rw whole lt))

-- the elements are the smallest member, then the elements of the set without it
pub elements-first : (set : ℕ) → 0 < size set → elements set ≡ smallest set ∷ elements (less set (only (smallest set)))
unfolding elements
elements-first set some =
    let s = stands (has set) 1 max_processors 0 some in
    passing_first (has set) (has (less set (only (smallest set)))) 1 max_processors (smallest set) s
    (λ j from pass. elim (cases_lt max_processors j) [
      | inl ghost_value ↦ omega (arith, s.high)
      | inr inside ↦ smallest_le set j (from, inside) (member_had set j from pass)
    ])
    (elim (cases_Bool (has (less set (only (smallest set))) (smallest set))) [
      | inl pass ↦ absurd (((less_members set _ _).0 (member_had _ _ s.low pass)).1 ((only_members _ _ s.low).1 refl))
      | inr fail ↦ fail
    ])
    (λ j from ne. both_ways _ _
    (λ pass. has_member _ j ((less_members set _ j).1 (member_had set j from pass, λ m. ne ((only_members _ j s.low).0 m))))
    (λ pass. has_member set j ((less_members set _ j).0 (member_had _ j from pass)).0))

-- the position of a member is the number of members below it
pub position_of-intersection : (set i : ℕ) → 1 ≤ i → position_of set i ≡ size (intersection set (everybody (i - 1)))
unfolding elements
position_of-intersection set i low =
    passing_before (has set) 1 max_processors i ∙
    ap length (passing_same (λ j. has set j && nat_lt j i) (has (intersection set (everybody (i - 1)))) 1 max_processors
    (λ j from. both_ways (has set j && nat_lt j i) (has (intersection set (everybody (i - 1))) j)
    (λ h.
    let both = and_parts (has set j) (nat_lt j i) h in
    let below = ltb-true j i both.1 in
    has_member (intersection set (everybody (i - 1))) j ((intersection_members set (everybody (i - 1)) j).1
    (member_had set j from both.0, (everybody_members (i - 1) j).1 (from, omega (arith, below)))))
    (λ h.
    let both = (intersection_members set (everybody (i - 1)) j).0 (member_had (intersection set (everybody (i - 1))) j from h) in
    let below = (everybody_members (i - 1) j).0 both.1 in
    and_from (has set j) (nat_lt j i) (has_member set j both.0) (lt-ltb j i (omega (arith, below.1))))))

-- the empty set has no elements
pub elements-nobody : elements nobody ≡ []
unfolding elements
elements-nobody = refl
