-- The gap from the bits of the known numbers: it is the number of the first clear bit, or lies past the last one.
use Rattle.std.proofs.Common.{◌≡◌, ℕ, zero, suc, ◌+◌, ◌-◌, ◌<◌, ◌≤◌, Bool, true, false, List, [], ◌∷◌, map, filter, refl, ap, ◌∙◌, sym, inl, inr, arith}
use Rattle.std.specs.Prelude.{◌&&◌, nat_lt, nat_le}
use Rattle.std.specs.Cmp.{both_ways}
use Rattle.std.specs.List.{list_any, prefix_len}
use Rattle.std.proofs.lemmas.Bool.{cases_lt, cases_Bool, cond-true, cond-false, ltb-true, lt-ltb, le-leb, and_from, true≢false}
use Rattle.ring_base.specs.Numbers.{window_size, numbers_from}
use Rattle.ring_commit.specs.Tokens.{CommitEntry}
use Rattle.ring_window.specs.Messages.{Message}
use Rattle.ring_window.specs.Bits.{is_set, IsFirstClear}
use Rattle.ring_recover.specs.Chosen.{numbers_of_bits}
use Rattle.ring_recover.specs.Plans.{Plan, safe, low, least, least_mark, gap, is_reported, is_known}
use Rattle.ring_recover.specs.Deliveries.{is_from_transitional_member, regular_part, transitional_part, past_gap_part}
use Rattle.ring_recover.proofs.NumbersPassing.{chosen_by, both_on, first_of_row}

-- How long a test holds

prefix_passes : (p : ℕ → Bool) (first count i : ℕ) → i < prefix_len p (numbers_from first count) → p (first + i) ≡ true
prefix_passes p first zero i l = absurd (omega arith)
prefix_passes p first (suc count) i l =
    elim (cases_Bool (p first)) [
      | inr e ↦ (let z : prefix_len p (numbers_from first (suc count)) ≡ 0 = cond-false (p first) (1 + prefix_len p (numbers_from
          (suc first) count)) 0 e in absurd (omega arith))
      | inl e ↦ (let n : prefix_len p (numbers_from first (suc count)) ≡ 1 + prefix_len p (numbers_from (suc first) count) = cond-true (p first)
          (1 + prefix_len p (numbers_from (suc first) count)) 0 e in
          elim (cases_lt 0 i) [
            | inl some ↦ (let f : first + i ≡ suc first + (i - 1) = omega arith in ap p f ∙ prefix_passes p (suc first) count (i - 1) (omega arith))
            | inr none ↦ (let f : first + i ≡ first = omega arith in ap p f ∙ e)
          ])
    ]

prefix_reaches : (p : ℕ → Bool) (first count m : ℕ) → m ≤ count → ((i : ℕ) → i < m → p (first + i) ≡ true) → m ≤ prefix_len p (numbers_from first count)
prefix_reaches p first zero m l h = omega arith
prefix_reaches p first (suc count) zero l h = omega arith
prefix_reaches p first (suc count) (suc m) l h =
    let z : first ≡ first + 0 = omega arith in
    let e : p first ≡ true = ap p z ∙ h 0 (omega arith) in
    let n : prefix_len p (numbers_from first (suc count)) ≡ 1 + prefix_len p (numbers_from (suc first) count) = cond-true (p first)
    (1 + prefix_len p (numbers_from (suc first) count)) 0 e in
    let rest = prefix_reaches p (suc first) count m (omega arith) (λ i k. (let f : suc first + i ≡ first + suc i = omega arith in ap p f
    ∙ h (suc i) (omega arith))) in
    omega arith

-- All numbers up to the least front are known

least_first : (x : ℕ) (xs : List ℕ) → least (x ∷ xs) ≤ x
least_first x [] = omega arith
least_first x (y ∷ xs) = omega arith

reported_below : (n : ℕ) (e : CommitEntry) → 1 ≤ n → n ≤ e.front → is_reported n e ≡ true
reported_below n e a b = rw (and_from (nat_lt 0 n) (nat_le n e.front) (lt-ltb 0 n (omega arith)) (le-leb n e.front b)) refl

known_below : (reports : List CommitEntry) (n : ℕ) → 1 ≤ n → n ≤ least (map (λ (e : CommitEntry). e.front) reports) → list_any (is_reported n) reports ≡ true
known_below [] n a b = absurd (omega arith)
known_below (e ∷ reports) n a b =
    let c = least_first e.front (map (λ (e : CommitEntry). e.front) reports) in
    rw (reported_below n e a (omega arith)) refl

-- The gap

turned : (a b c : Bool) → (a && (b && c)) ≡ (c && (a && b))
turned true true true = refl
turned true true false = refl
turned true false true = refl
turned true false false = refl
turned false true true = refl
turned false true false = refl
turned false false true = refl
turned false false false = refl

module _ (p : Plan) (known : List ℕ) (k : ℕ) (sound : safe p ≤ low p) (is : (j : ℕ) → j < 256 → is_set known j ≡ is_known p (safe p + 1 + j))
    (few : k ≤ 256) (first : IsFirstClear known 0 k) where
  below_gap : (j : ℕ) → j < k → safe p + 1 + j < gap p
  below_gap j l =
      elim (cases_lt (low p) (safe p + 1 + j)) [
        | inr low_enough ↦ omega arith
        | inl above ↦
            let i = safe p + j - low p in
            let reach : i + 1 ≤ prefix_len (is_known p) (numbers_from (low p + 1) window_size) = prefix_reaches (is_known p) (low p + 1) window_size
            (i + 1) (omega arith) (λ m n.
            (let e : low p + 1 + m ≡ safe p + 1 + (low p - safe p + m) = omega arith in
            ap (is_known p) e ∙ sym (is (low p - safe p + m) (omega arith)) ∙ first.set (low p - safe p + m) (omega arith) (omega arith))) in
            omega arith
      ]

  -- each number below the gap is known
  known_to_gap : (n : ℕ) → 1 ≤ n → n < gap p → is_known p n ≡ true
  known_to_gap n a b =
      elim (cases_lt (low p) n) [
        | inr l ↦ known_below p.reports n a (omega arith)
        | inl l ↦ (let e : n ≡ low p + 1 + (n - low p - 1) = omega arith in ap (is_known p) e
            ∙ prefix_passes (is_known p) (low p + 1) window_size (n - low p - 1) (omega arith))
      ]

  not_past_clear : (j : ℕ) → j < 256 → safe p + 1 + j < gap p → j < k
  not_past_clear j near b =
      elim (cases_lt j k) [
        | inl l ↦ l
        | inr l ↦ absurd (true≢false (sym (known_to_gap (safe p + 1 + k) (omega arith) (omega arith)) ∙ sym (is k (omega arith)) ∙ first.clear))
      ]

  gap_bit : (j : ℕ) → j < 256 → nat_lt j k ≡ nat_lt (safe p + 1 + j) (gap p)
  gap_bit j near =
      both_ways (nat_lt j k) (nat_lt (safe p + 1 + j) (gap p))
      (λ h. lt-ltb (safe p + 1 + j) (gap p) (below_gap j (ltb-true j k h)))
      (λ h. lt-ltb j k (not_past_clear j near (ltb-true (safe p + 1 + j) (gap p) h)))

  past_gap_bit : (j : ℕ) → j < 256 → nat_lt k j ≡ nat_lt (gap p) (safe p + 1 + j)
  past_gap_bit j near =
      both_ways (nat_lt k j) (nat_lt (gap p) (safe p + 1 + j))
      (λ h.
      let l = ltb-true k j h in
      elim (cases_lt (gap p) (safe p + 1 + j)) [
        | inl g ↦ lt-ltb (gap p) (safe p + 1 + j) g
        | inr g ↦ (let c : k < k = not_past_clear k (omega arith) (omega arith) in absurd (omega arith))
      ])
      (λ h.
      let g = ltb-true (gap p) (safe p + 1 + j) h in
      let some : low p + 1 ≤ gap p = omega arith in
      elim (cases_lt (gap p - (safe p + 1)) k) [
        | inl l ↦ (let c = below_gap (gap p - (safe p + 1)) l in absurd (omega arith))
        | inr l ↦ lt-ltb k j (omega arith)
      ])

  -- the part below the gap and the part past it
  pub transitional_is : (words : List ℕ) → ((j : ℕ) → j < 256 → is_set words j ≡ (nat_lt j k && is_set known j)) → numbers_of_bits (safe p) words ≡ transitional_part p
  transitional_is words h =
      chosen_by (λ n. nat_lt n (gap p) && is_known p n) (safe p) words (λ j l. h j l ∙ rw (gap_bit j l, is j l) refl)
      ∙ sym (both_on (λ n. nat_lt n (gap p)) (is_known p) (numbers_from (safe p + 1) window_size))

  pub past_gap_is : {A : Type 0} (held : List (Message A)) (words : List ℕ) → ((j : ℕ) → j < 256
      → is_set words j ≡ (nat_lt k j && (is_set known j && is_from_transitional_member p held (safe p + 1 + j)))) → numbers_of_bits (safe p) words ≡ past_gap_part p held
  past_gap_is held words h =
      chosen_by (λ n. is_from_transitional_member p held n && (nat_lt (gap p) n && is_known p n)) (safe p) words (λ j l. h j l
      ∙ rw (past_gap_bit j l, is j l) (turned (nat_lt (gap p) (safe p + 1 + j)) (is_known p (safe p + 1 + j)) (is_from_transitional_member p held (safe p + 1 + j))))
      ∙ sym (both_on (is_from_transitional_member p held) (λ n. nat_lt (gap p) n && is_known p n) (numbers_from (safe p + 1) window_size))
      ∙ sym (ap (filter (is_from_transitional_member p held)) (both_on (nat_lt (gap p)) (is_known p) (numbers_from (safe p + 1) window_size)))

-- the part up to the greatest safe mark
pub regular_is : (p : Plan) (words : List ℕ) → ((j : ℕ) → j < 256 → is_set words j ≡ nat_lt j (safe p - least_mark p))
    → numbers_of_bits (least_mark p) words ≡ regular_part p
regular_is p words h =
    let first = least_mark p + 1 in
    let count = safe p - least_mark p in
    chosen_by (λ n. nat_lt n (first + count)) (least_mark p) words (λ j l. h j l ∙ shifted first j count) ∙ first_of_row first count window_size
  where
    shifted : (first j count : ℕ) → nat_lt j count ≡ nat_lt (first + j) (first + count)
    shifted first j count = both_ways (nat_lt j count) (nat_lt (first + j) (first + count))
        (λ h. (let l = ltb-true j count h in lt-ltb (first + j) (first + count) (omega arith)))
        (λ h. (let l = ltb-true (first + j) (first + count) h in lt-ltb j count (omega arith)))

-- a test that follows from another adds nothing to it
pub implied : (a b c : Bool) → (c ≡ true → a ≡ true) → (a && (b && c)) ≡ (b && c)
implied true b c h = refl
implied false b true h = absurd (true≢false (sym (h refl)))
implied false true false h = refl
implied false false false h = refl

pub implied_by : (a b c d : Bool) → (c ≡ true → a ≡ true) → (a && (b && (c && d))) ≡ (b && (c && d))
implied_by true b c d h = refl
implied_by false b true d h = absurd (true≢false (sym (h refl)))
implied_by false true false d h = refl
implied_by false false false d h = refl
