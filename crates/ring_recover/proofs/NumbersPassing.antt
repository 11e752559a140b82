-- Consecutive numbers that pass a test, and bits that say which of them do.
use Rattle.std.proofs.Common.{◌≡◌, ◌≢◌, ℕ, zero, suc, ◌+◌, ◌-◌, ◌<◌, ◌≤◌, min, Bool, true, false, List, [], ◌∷◌, filter}
use Rattle.std.proofs.Common.{length, refl, ap, ◌∙◌, sym, inl, inr, arith}
use Rattle.std.specs.Prelude.{◌&&◌, nat_lt}
use Rattle.std.specs.List.{list_all}
use Rattle.std.proofs.lemmas.Bool.{cases_lt, cases_eq, cases_Bool, cond_both, cond-true, cond-false, and_parts, and_from, lt-ltb, le-ltb, true≢false}
use Rattle.ring_base.specs.Numbers.{window_size, numbers_from}
use Rattle.ring_base.proofs.Cases.{and-true, and-false}
use Rattle.ring_window.specs.Bits.{is_set}
use Rattle.ring_window.proofs.WordBits.{clear_past}
use Rattle.ring_recover.specs.Chosen.{is_chosen, numbers_of_bits, chosen_from, IsFirstSet}

-- a number that doesn't pass is left out
pub passed_over : (p : ℕ → Bool) (first count k : ℕ) → k ≤ count → ((i : ℕ) → i < k → p (first + i) ≡ false)
    → filter p (numbers_from first count) ≡ filter p (numbers_from (first + k) (count - k))
passed_over p first count zero l h = (let a : first ≡ first + 0 = omega arith in let b : count ≡ count - 0 = omega arith in ap
    (λ n. filter p (numbers_from n count)) a ∙ ap (λ n. filter p (numbers_from (first + 0) n)) b)
passed_over p first zero (suc k) l h = absurd (omega arith)
passed_over p first (suc count) (suc k) l h =
    let z : first ≡ first + 0 = omega arith in
    let a : suc first + k ≡ first + suc k = omega arith in
    let b : count - k ≡ suc count - suc k = omega arith in
    cond-false (p first) (first ∷ filter p (numbers_from (suc first) count)) (filter p (numbers_from (suc first) count)) (ap p z ∙ h 0 (omega arith))
    ∙ passed_over p (suc first) count k (omega arith) (λ i x. (let e : suc first + i ≡ first + suc i = omega arith in ap p e ∙ h (suc i) (omega arith)))
    ∙ ap (λ n. filter p (numbers_from n (count - k))) a ∙ ap (λ n. filter p (numbers_from (first + suc k) n)) b

-- two tests that agree on consecutive numbers leave the same numbers
pub same_on : (p q : ℕ → Bool) (first count : ℕ) → ((i : ℕ) → i < count → p (first + i) ≡ q (first + i))
    → filter p (numbers_from first count) ≡ filter q (numbers_from first count)
same_on p q first zero h = refl
same_on p q first (suc count) h =
    let z : first ≡ first + 0 = omega arith in
    let here : p first ≡ q first = ap p z ∙ h 0 (omega arith) ∙ sym (ap q z) in
    let rest = same_on p q (suc first) count (λ i l. (let e : suc first + i ≡ first + suc i = omega arith in ap p e ∙ h (suc i) (omega arith)
    ∙ sym (ap q e))) in
    rw (here, rest) refl

-- filtering by two tests is filtering by both at once
pub both_on : (p q : ℕ → Bool) (xs : List ℕ) → filter p (filter q xs) ≡ filter (λ n. p n && q n) xs
both_on p q [] = refl
both_on p q (x ∷ xs) =
    elim (cases_Bool (q x)) [
      | inl e ↦ rw (cond-true (q x) (x ∷ filter q xs) (filter q xs) e, both_on p q xs, e, and-true (p x)) refl
      | inr e ↦ rw (cond-false (q x) (x ∷ filter q xs) (filter q xs) e, both_on p q xs, e, and-false (p x)) refl
    ]

-- ---- bits

-- the bit of one of the numbers
pub chosen_at : (after j : ℕ) (words : List ℕ) → is_chosen after words (after + 1 + j) ≡ is_set words j
chosen_at after j words = (let e : after + 1 + j - (after + 1) ≡ j = omega arith in ap (is_set words) e)

-- the bits agree with the test
pub chosen_by : (p : ℕ → Bool) (after : ℕ) (words : List ℕ) → ((j : ℕ) → j < 256 → is_set words j ≡ p (after + 1 + j))
    → numbers_of_bits after words ≡ filter p (numbers_from (after + 1) window_size)
chosen_by p after words h = same_on (is_chosen after words) p (after + 1) window_size (λ i l. chosen_at after i words ∙ h i l)

-- ---- one after another

pub chosen_all : (after : ℕ) (words : List ℕ) → chosen_from after words 0 ≡ numbers_of_bits after words
chosen_all after words = (let e : after + 1 + 0 ≡ after + 1 = omega arith in ap (λ n. filter (is_chosen after words) (numbers_from n window_size)) e)

skipped : (after : ℕ) (words : List ℕ) (from k : ℕ) → IsFirstSet words from k → chosen_from after words from ≡ chosen_from after words k
skipped after words from k f =
    let p = is_chosen after words in
    let a : after + 1 + from + (k - from) ≡ after + 1 + k = omega (arith, f.later) in
    let b : window_size - from - (k - from) ≡ window_size - k = omega (arith, f.later, f.inside) in
    passed_over p (after + 1 + from) (window_size - from) (k - from) (omega (arith, f.later, f.inside))
    (λ i l. (let e : after + 1 + from + i ≡ after + 1 + (from + i) = omega arith in ap p e ∙ chosen_at after (from + i) words
    ∙ f.clear (from + i) (omega arith) (omega (arith, f.later))))
    ∙ ap (λ n. filter p (numbers_from n (window_size - from - (k - from)))) a ∙ ap (λ n. filter p (numbers_from (after + 1 + k) n)) b

-- no number is left
pub chosen_none : (after : ℕ) (words : List ℕ) (from k : ℕ) → IsFirstSet words from k → k ≡ 256 → chosen_from after words from ≡ []
chosen_none after words from k f e = skipped after words from k f ∙ ap (chosen_from after words) e

-- the first, and the others
pub chosen_next : (after : ℕ) (words : List ℕ) (from k : ℕ) → IsFirstSet words from k → k ≢ 256
    → chosen_from after words from ≡ (after + 1 + k) ∷ chosen_from after words (k + 1)
chosen_next after words from k f some =
    let p = is_chosen after words in
    let n : window_size - k ≡ suc (window_size - (k + 1)) = omega (arith, f.inside) in
    let m : suc (after + 1 + k) ≡ after + 1 + (k + 1) = omega arith in
    skipped after words from k f
    ∙ ap (λ c. filter p (numbers_from (after + 1 + k) c)) n
    ∙ cond-true (p (after + 1 + k)) ((after + 1 + k) ∷ filter p (numbers_from (suc (after + 1 + k)) (window_size - (k + 1)))) (filter p
    (numbers_from (suc (after + 1 + k)) (window_size - (k + 1)))) (chosen_at after k words ∙ f.set some)
    ∙ ap (λ c. (after + 1 + k) ∷ filter p (numbers_from c (window_size - (k + 1)))) m

-- ---- all of them pass a test, or one doesn't

pub chosen_pass : (p : ℕ → Bool) (after : ℕ) (words : List ℕ) → ((j : ℕ) → j < 256 → is_set words j ≡ true → p (after + 1 + j) ≡ true)
    → list_all p (numbers_of_bits after words) ≡ true
chosen_pass p after words h = row p (is_chosen after words) (after + 1) window_size (λ i l c. h i l (sym (chosen_at after i words) ∙ c))
  where
    row : (p q : ℕ → Bool) (first count : ℕ) → ((i : ℕ) → i < count → q (first + i) ≡ true → p (first + i) ≡ true)
        → list_all p (filter q (numbers_from first count)) ≡ true
    row p q first zero h = refl
    row p q first (suc count) h =
        let z : first ≡ first + 0 = omega arith in
        let rest = row p q (suc first) count (λ i l c. (let e : suc first + i ≡ first + suc i = omega arith in ap p e
        ∙ h (suc i) (omega arith) (sym (ap q e) ∙ c))) in
        cond_both (q first) (first ∷ filter q (numbers_from (suc first) count)) (filter q (numbers_from (suc first) count))
        (λ (xs : List ℕ). list_all p xs ≡ true)
        (λ c. and_from (p first) _ (ap p z ∙ h 0 (omega arith) (sym (ap q z) ∙ c)) rest)
        (λ c. rest)

pub chosen_each : (p : ℕ → Bool) (after : ℕ) (words : List ℕ) → list_all p (numbers_of_bits after words) ≡ true → (j : ℕ) → j < 256 → is_set words j ≡ true
    → p (after + 1 + j) ≡ true
chosen_each p after words h j l c = row p (is_chosen after words) (after + 1) window_size h j l (chosen_at after j words ∙ c)
  where
    row : (p q : ℕ → Bool) (first count : ℕ) → list_all p (filter q (numbers_from first count)) ≡ true → (i : ℕ) → i < count → q (first + i) ≡ true
        → p (first + i) ≡ true
    row p q first zero h i l c = absurd (omega arith)
    row p q first (suc count) h zero l c =
        let z : first + 0 ≡ first = omega arith in
        let rest = filter q (numbers_from (suc first) count) in
        let e : filter q (numbers_from first (suc count)) ≡ first ∷ rest = cond-true (q first) (first ∷ rest) rest (sym (ap q z) ∙ c) in
        let all : list_all p (first ∷ rest) ≡ true = sym (ap (list_all p) e) ∙ h in
        ap p z ∙ (and_parts (p first) (list_all p rest) all).0
    row p q first (suc count) h (suc i) l c =
        let e : first + suc i ≡ suc first + i = omega arith in
        let rest = filter q (numbers_from (suc first) count) in
        let all : list_all p rest ≡ true = cond_both (q first) (first ∷ rest) rest
        (λ (xs : List ℕ). list_all p xs ≡ true → list_all p rest ≡ true) (λ d k. (and_parts (p first) (list_all p rest) k).1) (λ d k. k) h in
        ap p e ∙ row p q (suc first) count all i (omega arith) (sym (ap q e) ∙ c)

-- the count of numbers, from the first on
pub first_of_row : (first d count : ℕ) → filter (λ n. nat_lt n (first + d)) (numbers_from first count) ≡ numbers_from first (min count d)
first_of_row first d zero = (let e : 0 ≡ min 0 d = omega arith in ap (numbers_from first) e)
first_of_row first zero (suc count) =
    passed_over (λ n. nat_lt n (first + 0)) first (suc count) (suc count) (omega arith) (λ i l. le-ltb (first + i) (first + 0) (omega arith))
    ∙ (let a : suc count - suc count ≡ 0 = omega arith in let b : 0 ≡ min (suc count) 0 = omega arith in ap (λ c. filter
    (λ n. nat_lt n (first + 0)) (numbers_from (first + suc count) c)) a ∙ ap (numbers_from first) b)
first_of_row first (suc d) (suc count) =
    let e : first + suc d ≡ suc first + d = omega arith in
    let m : suc (min count d) ≡ min (suc count) (suc d) = omega arith in
    let rest = filter (λ n. nat_lt n (first + suc d)) (numbers_from (suc first) count) in
    cond-true (nat_lt first (first + suc d)) (first ∷ rest) rest (lt-ltb first (first + suc d) (omega arith))
    ∙ ap (λ c. first ∷ filter (λ n. nat_lt n c) (numbers_from (suc first) count)) e
    ∙ ap (λ xs. first ∷ xs) (first_of_row (suc first) d count)
    ∙ ap (numbers_from first) m

-- no bit past the last is set
pub set_inside : (words : List ℕ) (j : ℕ) → length words ≡ 4 → is_set words j ≡ true → j < 256
set_inside words j n h = elim (cases_lt j 256) [ inl l ↦ l | inr g ↦ absurd (true≢false (sym h ∙ clear_past words j n g)) ]

-- ---- one more bit

-- the bits of the numbers so far that pass a test; P says which tests are meant
pub such_more : (P : (ℕ → Bool) → Type 0) (old new : List ℕ) (k : ℕ) → ((t : ℕ → Bool) → P t → is_set new k ≡ t k) → ((i : ℕ) → i ≢ k
    → is_set new i ≡ is_set old i)
    → ((t : ℕ → Bool) → P t → (i : ℕ) → i < k → is_set old i ≡ t i) → (t : ℕ → Bool) → P t → (i : ℕ) → i < k + 1 → is_set new i ≡ t i
such_more P old new k this others before t h i l =
    elim (cases_eq i k) [
      | inl e ↦ ap (is_set new) e ∙ this t h ∙ ap t (sym e)
      | inr ne ↦ others i ne ∙ before t h i (omega arith)
    ]
