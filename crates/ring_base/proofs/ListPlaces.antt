-- The elements at a list's places: with one more at the end, with more after it, or overwritten; in a range or a row
-- of zeros; and the greatest of a list with one more.
use Rattle.std.proofs.Common.{◌≡◌, ℕ, zero, suc, ◌+◌, List, [], ◌∷◌, ◌++◌, length, Some, slice_get, refl, arith, ◌⊎◌, inl, inr, ◌<◌, slice_set, ◌≤◌}
use Rattle.std.proofs.Common.{None, ap, map, ◌∙◌, sym, Bor, option_copied, Option, max, replicate, slice_index}
use Rattle.std.proofs.lemmas.List.{map-append}
use Rattle.std.proofs.lemmas.Option.{slice_get_read, slice_get_past}
use Rattle.std.specs.Slice.{IsItemAt}
use Rattle.ring_base.specs.Prefixes.{prefix_append, prefix_get}
use Rattle.ring_base.specs.Numbers.{numbers_from, greatest}

-- an element of a list with one more at its end was there before, or is the last
pub get-push : {X : Type 0} (xs : List X) (y : X) (k : ℕ) (z : X) → slice_get (xs ++ y ∷ []) k ≡ Some z
    → (slice_get xs k ≡ Some z) ⊎ ((k ≡ length xs) × (y ≡ z))
get-push [] y zero z e = inr (refl, cc e)
get-push [] y (suc k) z e = absurd (cc e)
get-push (x ∷ xs) y zero z e = inl e
get-push (x ∷ xs) y (suc k) z e = elim (get-push xs y k z e) [ inl h ↦ inl h | inr h ↦ inr (omega (arith, h.0), h.1) ]

-- each place of a row of zeros, and each after it, has 0
pub zero_at : (n k : ℕ) → slice_index (replicate n 0) k ≡ 0
zero_at zero k = refl
zero_at (suc n) zero = refl
zero_at (suc n) (suc k) = zero_at n k

-- the greatest of a list with one number more
pub greatest-push : (xs : List ℕ) (x : ℕ) → greatest (xs ++ x ∷ []) ≡ max (greatest xs) x
greatest-push [] x = omega arith
greatest-push (y ∷ xs) x = (let rest = greatest-push xs x in omega (arith, rest))

-- the last element
pub get-last : {X : Type 0} (xs : List X) (y : X) → slice_get (xs ++ y ∷ []) (length xs) ≡ Some y
get-last [] y = refl
get-last (x ∷ xs) y = get-last xs y

-- an element of a list is there with more after it
pub get-left : {X : Type 0} (xs ys : List X) (k : ℕ) (x : X) → slice_get xs k ≡ Some x → slice_get (xs ++ ys) k ≡ Some x
get-left xs ys k x h = prefix_get xs (xs ++ ys) k x (prefix_append xs ys) h

-- the element written at a place is there
pub get-set : {X : Type 0} (xs : List X) (i : ℕ) (x : X) → i < length xs → slice_get (slice_set xs i x) i ≡ Some x
get-set [] i x within = absurd (omega arith)
get-set (y ∷ xs) zero x within = refl
get-set (y ∷ xs) (suc i) x within = get-set xs i x (omega arith)

-- the element at another place stays
pub get-set_other : {X : Type 0} (xs : List X) (i j : ℕ) (x : X) → (j ≡ i → ⊥) → slice_get (slice_set xs i x) j ≡ slice_get xs j
get-set_other [] i j x n = refl
get-set_other (z ∷ xs) zero zero x n = absurd (n refl)
get-set_other (z ∷ xs) zero (suc j) x n = refl
get-set_other (z ∷ xs) (suc i) zero x n = refl
get-set_other (z ∷ xs) (suc i) (suc j) x n = get-set_other xs i j x (λ e. n (ap suc e))

-- a place without an element is past the end
pub none-length : {X : Type 0} (xs : List X) (i : ℕ) → slice_get xs i ≡ None → length xs ≤ i
none-length [] i h = omega arith
none-length (x ∷ xs) zero h = absurd cc
none-length (x ∷ xs) (suc i) h = let k = none-length xs i h in omega (arith, k)

-- a list with one element more is longer by one
pub push-length : {X : Type 0} (xs : List X) (x : X) → length (xs ++ x ∷ []) ≡ suc (length xs)
push-length [] x = refl
push-length (y ∷ xs) x = ap suc (push-length xs x)

-- two ranges, one after the other, are one range
pub numbers-append : (first m k : ℕ) → numbers_from first m ++ numbers_from (first + m) k ≡ numbers_from first (m + k)
numbers-append first zero k = (let e : first + 0 ≡ first = omega arith in let f : 0 + k ≡ k = omega arith in rw (e, f) refl)
numbers-append first (suc m) k =
    (let e : first + suc m ≡ suc first + m = omega arith in let f : suc m + k ≡ suc (m + k) = omega arith in rw (e, f)
    (ap (λ ns. first ∷ ns) (numbers-append (suc first) m k)))

-- the image of a number of a range under a function
pub get-numbers : {X : Type 0} (f : ℕ → X) (first n i : ℕ) → i < n → slice_get (map f (numbers_from first n)) i ≡ Some (f (first + i))
get-numbers f first zero i l = absurd (omega (arith, l))
get-numbers f first (suc n) zero l = ap (λ k. Some (f k)) (let e : first ≡ first + 0 = omega arith in e)
get-numbers f first (suc n) (suc i) l =
    get-numbers f (suc first) n i (omega (arith, l)) ∙ ap (λ k. Some (f k)) (let e : suc first + i ≡ first + suc i = omega arith in e)

-- the images of a range with one number more
pub row-push : {X : Type 0} (f : ℕ → X) (xs ys : List X) (k : ℕ) (x : X) (me : ℕ) → xs ≡ map f (numbers_from 1 k) → ys ≡ xs ++ x ∷ [] → x ≡ f me
    → me ≡ k + 1 → ys ≡ map f (numbers_from 1 (k + 1))
row-push f xs ys k x me a b c d =
    let last : me ≡ 1 + k = omega (arith, d) in
    b ∙ ap (λ zs. zs ++ x ∷ []) a ∙ ap (λ y. map f (numbers_from 1 k) ++ y ∷ []) (c ∙ ap f last)
    ∙ sym (map-append f (numbers_from 1 k) ((1 + k) ∷ [])) ∙ ap (map f) (numbers-append 1 k 1)

-- an item borrowed from its place and copied
pub item_copied : {X : Type 0} (xs : List X) (i : ℕ) (r : Option (Bor X)) → IsItemAt xs i r → option_copied r ≡ slice_get xs i
item_copied xs i None h = sym (slice_get_past xs i h.3)
item_copied xs i (Some x) h = sym (slice_get_read xs (length xs) i x.now refl h.3.0 h.1)

-- the elements of a list after a write
pub set_cases : {X : Type 0} (xs : List X) (k i : ℕ) (y x : X) → slice_get (slice_set xs k y) i ≡ Some x
    → ((i ≡ k) × (x ≡ y)) ⊎ ((i ≡ k → ⊥) × (slice_get xs i ≡ Some x))
set_cases [] k i y x h = cc
set_cases (z ∷ xs) zero zero y x h = inl (refl, cc)
set_cases (z ∷ xs) zero (suc i) y x h = inr ((λ e. omega arith), h)
set_cases (z ∷ xs) (suc k) zero y x h = inr ((λ e. omega arith), h)
set_cases (z ∷ xs) (suc k) (suc i) y x h = elim (set_cases xs k i y x h) [ inl w ↦ inl (ap suc w.0, w.1) | inr w ↦ inr ((λ e. w.0 (omega arith)), w.1) ]

numbers_more : (first n : ℕ) → numbers_from first (n + 1) ≡ numbers_from first n ++ (first + n) ∷ []
numbers_more first zero = let e : first + 0 ≡ first = omega arith in rw e refl
numbers_more first (suc n) =
    let end : first + suc n ≡ suc first + n = omega arith in
    let more : suc n + 1 ≡ suc (n + 1) = omega arith in
    rw (end, more) (ap (λ xs. first ∷ xs) (numbers_more (suc first) n))

-- the values at the numbers below n + 1 are those below n and the one at n
pub map_numbers : {X : Type 0} (f : ℕ → X) (n : ℕ) → map f (numbers_from 0 (n + 1)) ≡ map f (numbers_from 0 n) ++ f n ∷ []
map_numbers f n =
    let here : 0 + n ≡ n = omega arith in
    let more : numbers_from 0 (n + 1) ≡ numbers_from 0 n ++ n ∷ [] = rw here at (numbers_more 0 n) in
    ap (map f) more ∙ map-append f (numbers_from 0 n) (n ∷ [])

-- inside a list there is an element
pub has-place : {X : Type 0} (xs : List X) (k : ℕ) → k < length xs → (x : X) × (slice_get xs k ≡ Some x)
has-place [] k within = absurd (omega (arith, within))
has-place (x ∷ xs) zero within = (x, refl)
has-place (x ∷ xs) (suc k) within = has-place xs k (omega (arith, within))

-- the elements of a list with one more at its end
pub added_cases : {X : Type 0} (xs : List X) (y : X) (i : ℕ) (x : X) → slice_get (xs ++ y ∷ []) i ≡ Some x
    → ((i ≡ length xs) × (x ≡ y)) ⊎ (slice_get xs i ≡ Some x)
added_cases [] y zero x h = inl (refl, cc)
added_cases [] y (suc i) x h = cc
added_cases (z ∷ xs) y zero x h = inr h
added_cases (z ∷ xs) y (suc i) x h = elim (added_cases xs y i x h) [ inl w ↦ inl (ap suc w.0, w.1) | inr w ↦ inr w ]
