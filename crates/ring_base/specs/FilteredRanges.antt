-- Laws of the numbers of a range that pass a test: which they are, the index of each, and how many there are.
use Rattle.std.proofs.Common.{◌≡◌, ◌≢◌, ℕ, zero, suc, ◌+◌, ◌<◌, ◌≤◌, Bool, true, false, List, ◌∷◌, length, arith, inl, inr, refl, ap, sym, ◌∙◌}
use Rattle.std.specs.Prelude.{◌&&◌, nat_lt, filter, slice_index}
use Rattle.std.specs.List.Sorted.{IsStrictlyIncreasing}
use Rattle.std.proofs.lemmas.Bool.{cases_lt, cases_Bool, le-ltb, lt-ltb}
use Rattle.ring_base.specs.Numbers.{numbers_from}

-- a range of n numbers has length n
pub length-numbers_from : (first n : ℕ) → length (numbers_from first n) ≡ n
length-numbers_from first zero = refl
length-numbers_from first (suc n) = ap suc (length-numbers_from (suc first) n)

slice_index-numbers_from : (first n k : ℕ) → k < n → slice_index (numbers_from first n) k ≡ first + k
slice_index-numbers_from first zero k lt = absurd (omega arith)
slice_index-numbers_from first (suc n) zero lt = omega arith
slice_index-numbers_from first (suc n) (suc k) lt = omega (arith, slice_index-numbers_from (suc first) n k (omega arith))

-- a range ascends strictly
pub IsStrictlyIncreasing-numbers_from : (first n : ℕ) → IsStrictlyIncreasing (numbers_from first n)
IsStrictlyIncreasing-numbers_from first n k lt =
    let below : k + 1 < n = omega (arith, length-numbers_from first n) in
    omega (arith, slice_index-numbers_from first n k (omega arith), slice_index-numbers_from first n (k + 1) below)

-- the numbers of a range that pass the test
abbrev pub filtered_range : (ℕ → Bool) → ℕ → ℕ → List ℕ
filtered_range p first n = filter p (numbers_from first n)

-- the number of elements of the list that are below i
abbrev pub before : List ℕ → ℕ → ℕ
before xs i = length (filter (λ j. nat_lt j i) xs)

-- at most n of n numbers pass
pub few : (p : ℕ → Bool) (first n : ℕ) → length (filtered_range p first n) ≤ n
few p first zero = omega arith
few p first (suc n) =
    elim (cases_Bool (p first)) [
      | inl pass ↦ rw pass (omega (arith, few p (suc first) n))
      | inr fail ↦ rw fail (omega (arith, few p (suc first) n))
    ]

-- the number is in the range and passes the test
pub record IsInFilteredRange (p : ℕ → Bool) (first n i : ℕ) : Type 0 where
  pub low : first ≤ i
  pub high : i < first + n
  pub passes : p i ≡ true

later : (p : ℕ → Bool) (first n i : ℕ) → IsInFilteredRange p (suc first) n i → IsInFilteredRange p first (suc n) i
later p first n i s = record { low = omega (arith, s.low); high = omega (arith, s.high); passes = s.passes }

-- each element of the list is in the range and passes
pub stands : (p : ℕ → Bool) (first n k : ℕ) → k < length (filtered_range p first n) → IsInFilteredRange p first n (slice_index (filtered_range p first n) k)
stands p first zero k lt = absurd (omega arith)
stands p first (suc n) zero lt =
    elim (cases_Bool (p first)) [
      | inl pass ↦ rw pass (record { low = omega arith; high = omega arith; passes = pass })
      | inr fail ↦ rw fail (later p first n _ (stands p (suc first) n zero (rw fail at lt)))
    ]
stands p first (suc n) (suc k) lt =
    elim (cases_Bool (p first)) [
      | inl pass ↦
          let inside = rw pass at lt in
          rw pass (later p first n _ (stands p (suc first) n k (omega (arith, inside))))
      | inr fail ↦ rw fail (later p first n _ (stands p (suc first) n (suc k) (rw fail at lt)))
    ]

none_before : (p : ℕ → Bool) (first n i : ℕ) → i ≤ first → before (filtered_range p first n) i ≡ 0
none_before p first zero i le = refl
none_before p first (suc n) i le =
    let not_below : nat_lt first i ≡ false = le-ltb _ _ le in
    elim (cases_Bool (p first)) [
      | inl pass ↦ rw (pass, not_below) (none_before p (suc first) n i (omega arith))
      | inr fail ↦ rw fail (none_before p (suc first) n i (omega arith))
    ]

-- the number is in the list, at the index that equals the number of elements below it
pub record IsAtCountBelow (xs : List ℕ) (i : ℕ) : Type 0 where
  pub inside : before xs i < length xs
  pub there : slice_index xs (before xs i) ≡ i

-- each number of the range that passes is in the list, at its index
pub place : (p : ℕ → Bool) (first n i : ℕ) → first ≤ i → i < first + n → p i ≡ true → IsAtCountBelow (filtered_range p first n) i
place p first zero i low high pass = absurd (omega arith)
place p first (suc n) i low high passes =
    elim (cases_lt first i) [
      | inl below ↦
          let is_below : nat_lt first i ≡ true = lt-ltb _ _ below in
          let rest = place p (suc first) n i (omega arith) (omega arith) passes in
          elim (cases_Bool (p first)) [
            | inl pass ↦ rw pass (record { inside = rw is_below (omega (arith, rest.inside)); there = rw is_below rest.there })
            | inr fail ↦ rw fail rest
          ]
      | inr from ↦
          let same : first ≡ i = omega arith in
          let pass : p first ≡ true = rw same passes in
          let not_below : nat_lt first i ≡ false = le-ltb _ _ from in
          let none = none_before p (suc first) n i (omega arith) in
          rw pass (record { inside = rw (not_below, none) (omega arith); there = rw (not_below, none) same })
    ]

-- the number of elements below the element at index k is k
pub before-at : (p : ℕ → Bool) (first n k : ℕ) → k < length (filtered_range p first n) → before (filtered_range p first n) (slice_index (filtered_range p first n) k) ≡ k
before-at p first zero k lt = absurd (omega arith)
before-at p first (suc n) zero lt =
    elim (cases_Bool (p first)) [
      | inl pass ↦
          let not_below : nat_lt first first ≡ false = le-ltb _ _ (omega arith) in
          rw (pass, not_below) (none_before p (suc first) n first (omega arith))
      | inr fail ↦ rw fail (before-at p (suc first) n zero (rw fail at lt))
    ]
before-at p first (suc n) (suc k) lt =
    elim (cases_Bool (p first)) [
      | inl pass ↦
          let inside = rw pass at lt in
          let below : k < length (filtered_range p (suc first) n) = omega (arith, inside) in
          let s = stands p (suc first) n k below in
          let is_below : nat_lt first (slice_index (filtered_range p (suc first) n) k) ≡ true = lt-ltb _ _ (omega (arith, s.low)) in
          rw (pass, is_below) (ap suc (before-at p (suc first) n k below))
      | inr fail ↦ rw fail (before-at p (suc first) n (suc k) (rw fail at lt))
    ]

-- tests that agree from `first` on let the same numbers pass
pub passing_same : (p q : ℕ → Bool) (first n : ℕ) → ((j : ℕ) → first ≤ j → p j ≡ q j) → filtered_range p first n ≡ filtered_range q first n
passing_same p q first zero same = refl
passing_same p q first (suc n) same =
    let here = same first (omega arith) in
    let rest = passing_same p q (suc first) n (λ j le. same j (omega arith)) in
    rw (here, rest) refl

-- the elements below i are the numbers that pass the test and are below i
pub passing_before : (p : ℕ → Bool) (first n i : ℕ) → before (filtered_range p first n) i ≡ length (filtered_range (λ j. p j && nat_lt j i) first n)
passing_before p first zero i = refl
passing_before p first (suc n) i =
    let rest = passing_before p (suc first) n i in
    elim (cases_Bool (p first)) [
      | inl pass ↦ elim (cases_Bool (nat_lt first i)) [
        | inl below ↦ rw (pass, below) (ap suc rest)
        | inr from ↦ rw (pass, from) rest
      ]
      | inr fail ↦ rw fail rest
    ]

-- the numbers that pass are the least of them, followed by the others
pub passing_first : (p q : ℕ → Bool) (first n i : ℕ) → IsInFilteredRange p first n i → ((j : ℕ) → first ≤ j → p j ≡ true → i ≤ j)
    → q i ≡ false → ((j : ℕ) → first ≤ j → j ≢ i → p j ≡ q j) → filtered_range p first n ≡ i ∷ filtered_range q first n
passing_first p q first zero i s least not_i others = absurd (omega (arith, s.low, s.high))
passing_first p q first (suc n) i s least not_i others =
    elim (cases_lt first i) [
      | inl before_i ↦
          let ne : first ≢ i = omega arith in
          let same = others first (omega arith) ne in
          let rest = passing_first p q (suc first) n i (record {
            low = omega arith;
            high = omega (arith, s.high);
            passes = s.passes;
          }) (λ j le. least j (omega arith)) not_i (λ j le. others j (omega arith)) in
          elim (cases_Bool (p first)) [
            | inl pass ↦ absurd (omega (arith, least first (omega arith) pass))
            | inr fail ↦ let fails : q first ≡ false = sym same ∙ fail in rw (fail, fails) rest
          ]
      | inr from ↦
          let here : first ≡ i = omega (arith, s.low) in
          let pass : p first ≡ true = rw here s.passes in
          let fail : q first ≡ false = rw here not_i in
          let rest = passing_same p q (suc first) n (λ j le. others j (omega arith) (omega arith)) in
          rw (pass, fail, rest, here) refl
    ]
