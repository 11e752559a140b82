-- Any two primary sets share a processor, and the test of a primary set is exact.
-- Rules: Processors and sets 4
use Rattle.std.proofs.Common.{◌≡◌, ℕ, zero, suc, ◌+◌, ◌-◌, ◌<◌, ◌≤◌, Bool, true, false, List, [], ◌∷◌, take, arith, inl, inr, refl}
use Rattle.std.specs.Prelude.{◌↔◌, IsTrue, slice_index}
use Rattle.std.specs.List.{sum, sum_by}
use Rattle.std.proofs.lemmas.Bool.{cases_Bool, and_parts, and_from, ltb-true, lt-ltb}
use Rattle.std.proofs.lemmas.List.Sums.{sum_by-cons, sum_by-take-le}
use Rattle.ring_base.specs.Numbers.{numbers_from}
use Rattle.ring_base.specs.Processors.{max_processors, has, elements}
use Rattle.ring_base.specs.Members.{member_had, within_members, everybody_members}
use Rattle.ring_base.specs.FilteredRanges.{filtered_range}
use Rattle.ring_base.specs.Group.{Group, votes_of, IsPrimary, is_primary, PrimariesMeet}

-- the first number of a range adds its weight if it passes
pub weight_more : (w : ℕ → ℕ) (p : ℕ → Bool) (first n : ℕ) → p first ≡ true → sum_by w (filtered_range p first (suc n)) ≡ w first + sum_by w (filtered_range p (suc first) n)
weight_more w p first n pass = rw pass (sum_by-cons w first (filtered_range p (suc first) n))

-- the first number of a range adds nothing if it fails
pub weight_same : (w : ℕ → ℕ) (p : ℕ → Bool) (first n : ℕ) → p first ≡ false → sum_by w (filtered_range p first (suc n)) ≡ sum_by w (filtered_range p (suc first) n)
weight_same w p first n fail = rw fail refl

-- a number, from `first` on, that passes both tests
record Shared (p q : ℕ → Bool) (first : ℕ) : Type 0 where
  number : ℕ
  low : first ≤ number
  passes_first : p number ≡ true
  passes_second : q number ≡ true

later : (p q : ℕ → Bool) (first : ℕ) → Shared p q (suc first) → Shared p q first
later p q first s = record { number = s.number; low = omega (arith, s.low); passes_first = s.passes_first; passes_second = s.passes_second }

-- if the numbers of a range that pass two tests together weigh more than the whole range, one number passes both
shared : (w : ℕ → ℕ) (p q : ℕ → Bool) (first n : ℕ) → sum_by w (numbers_from first n) < sum_by w (filtered_range p first n)
    + sum_by w (filtered_range q first n) → Shared p q first
shared w p q first zero more = absurd (omega arith)
shared w p q first (suc n) more =
    let all = sum_by-cons w first (numbers_from (suc first) n) in
    elim (cases_Bool (p first)) [
      | inl p_pass ↦ elim (cases_Bool (q first)) [
        | inl q_pass ↦ record { number = first; low = omega arith; passes_first = p_pass; passes_second = q_pass }
        | inr q_fail ↦ later p q first (shared w p q (suc first) n (omega (arith, more, all, weight_more w p first n p_pass, weight_same w q first n q_fail)))
      ]
      | inr p_fail ↦ elim (cases_Bool (q first)) [
        | inl q_pass ↦ later p q first (shared w p q (suc first) n (omega (arith, more, all, weight_same w p first n p_fail, weight_more w q first n q_pass)))
        | inr q_fail ↦ later p q first (shared w p q (suc first) n (omega (arith, more, all, weight_same w p first n p_fail, weight_same w q first n q_fail)))
      ]
    ]

none_in_front : (n : ℕ) → sum (take n []) ≡ 0
none_in_front zero = refl
none_in_front (suc n) = refl

-- a range whose weights are the elements of a list weighs as much as the list's prefix of that length
weight_front : (w : ℕ → ℕ) (first n : ℕ) (votes : List ℕ) → ((k : ℕ) → w (first + k) ≡ slice_index votes k)
    → sum_by w (numbers_from first n) ≡ sum (take n votes)
weight_front w first zero votes weighs = refl
weight_front w first (suc n) [] weighs =
    let here : w first ≡ 0 = let e : first + 0 ≡ first = omega arith in rw e at (weighs 0) in
    let rest = weight_front w (suc first) n [] (λ k. let e : suc first + k ≡ first + suc k = omega arith in rw e (weighs (suc k))) in
    omega (arith, sum_by-cons w first (numbers_from (suc first) n), here, rest, none_in_front n)
weight_front w first (suc n) (v ∷ votes) weighs =
    let here : w first ≡ v = let e : first + 0 ≡ first = omega arith in rw e at (weighs 0) in
    let rest = weight_front w (suc first) n votes (λ k. let e : suc first + k ≡ first + suc k = omega arith in rw e (weighs (suc k))) in
    omega (arith, sum_by-cons w first (numbers_from (suc first) n), sum_by-cons (λ (x : ℕ). x) v (take n votes), here, rest)

-- the sum of the votes of processors 1 to n is that of the first n elements of the list
pub votes_front : (group : Group) (n : ℕ) → sum_by (votes_of group) (numbers_from 1 n) ≡ sum (take n group.votes)
votes_front group n = weight_front (votes_of group) 1 n group.votes (λ k. let e : 1 + k - 1 ≡ k = omega arith in rw e refl)

-- any two primary sets share a processor
pub primaries_share : PrimariesMeet
unfolding elements
primaries_share group a b p q =
    let all = votes_front group max_processors in
    let le = sum_by-take-le (λ (x : ℕ). x) group.votes max_processors in
    let s = shared (votes_of group) (has a) (has b) 1 max_processors (omega (arith, all, le, p.majority, q.majority)) in
    let member = member_had a s.number s.low s.passes_first in
    (s.number, p.within s.number member, member, member_had b s.number s.low s.passes_second)

-- the test is true exactly for primary sets
pub primary_tested : (group : Group) (set : ℕ) → IsTrue (is_primary group set) ↔ IsPrimary group set
primary_tested group set = (
  λ h.
      let both = and_parts _ _ h in
      let inside = (within_members set _).0 both.0 in
      record { within = λ i m. ((everybody_members group.count i).0 (inside i m)).1; majority = ltb-true _ _ both.1 },
  λ p.
      let inside = (within_members set _).1 (λ i m. (everybody_members group.count i).1 (m.0, p.within i m)) in
      and_from _ _ inside (lt-ltb _ _ p.majority),
)
