-- Membership in a list of facts, and properties of all its items.
use Rattle.std.proofs.Common.{◌≡◌, ℕ, zero, suc, ◌+◌, ◌-◌, ◌<◌, ◌≤◌, ◌⊎◌, inl, inr, Bool, true, List, [], ◌∷◌, ◌++◌}
use Rattle.std.proofs.Common.{Option, Some, None, slice_get, refl, ap, sym, ◌∙◌, subst, arith, length}
use Rattle.std.specs.Prelude.{filter, filter_map, find, reverse, slice_index_or, Contains}
use Rattle.std.specs.List.{AllByRecursion as Each, cons_option, list_any}
use Rattle.std.proofs.lemmas.Bool.{cond_both, cases_lt, or_left, or_right, or_cases, both_ways, false≢true, cases_Bool, cond-true, cond-false}
use Rattle.std.proofs.lemmas.List.{reverse-append}
use Rattle.ring_base.specs.Numbers.{numbers_from}
use Rattle.ring_core_proof.specs.FactWords.{IsIn, SomeIs}

-- Membership

pub in-left : {X : Type 0} (x : X) (xs ys : List X) → IsIn x xs → IsIn x (xs ++ ys)
in-left x [] ys h = absurd h
in-left x (y ∷ xs) ys (inl e) = inl e
in-left x (y ∷ xs) ys (inr h) = inr (in-left x xs ys h)

pub in-right : {X : Type 0} (x : X) (xs ys : List X) → IsIn x ys → IsIn x (xs ++ ys)
in-right x [] ys h = h
in-right x (y ∷ xs) ys h = inr (in-right x xs ys h)

pub in-parts : {X : Type 0} (x : X) (xs ys : List X) → IsIn x (xs ++ ys) → IsIn x xs ⊎ IsIn x ys
in-parts x [] ys h = inr h
in-parts x (y ∷ xs) ys (inl e) = inl (inl e)
in-parts x (y ∷ xs) ys (inr h) = elim (in-parts x xs ys h) [ inl a ↦ inl (inr a) | inr b ↦ inr b ]

pub in-each : {X : Type 0} (P : X → Type 0) (x : X) (xs : List X) → Each P xs → IsIn x xs → P x
in-each P x [] h i = absurd i
in-each P x (y ∷ xs) h (inl e) = subst P (sym e) h.0
in-each P x (y ∷ xs) h (inr i) = in-each P x xs h.1 i

pub in-reverse : {X : Type 0} (x : X) (xs : List X) → IsIn x xs → IsIn x (reverse xs)
in-reverse x [] i = absurd i
in-reverse x (y ∷ xs) (inl e) = subst (IsIn x) (sym (reverse-append (y ∷ []) xs)) (in-right x (reverse xs) (y ∷ []) (inl e))
in-reverse x (y ∷ xs) (inr i) = subst (IsIn x) (sym (reverse-append (y ∷ []) xs)) (in-left x (reverse xs) (y ∷ []) (in-reverse x xs i))

pub in-filter : {X : Type 0} (p : X → Bool) (x : X) (xs : List X) → IsIn x xs → p x ≡ true → IsIn x (filter p xs)
in-filter p x [] i t = absurd i
in-filter p x (y ∷ xs) (inl e) t = cond_both (p y) (y ∷ filter p xs) (filter p xs) (IsIn x) (λ k. inl e) (λ k. absurd (both_ways (p x) (ap p e ∙ k) t))
in-filter p x (y ∷ xs) (inr i) t = cond_both (p y) (y ∷ filter p xs) (filter p xs) (IsIn x) (λ k. inr (in-filter p x xs i t)) (λ k. in-filter p x xs i t)

pub in-filtered : {X : Type 0} (p : X → Bool) (x : X) (xs : List X) → IsIn x (filter p xs) → IsIn x xs × (p x ≡ true)
in-filtered p x [] i = absurd i
in-filtered {X} p x (y ∷ xs) i =
    cond_both (p y) (y ∷ filter p xs) (filter p xs) (λ ys. IsIn x ys → IsIn x (y ∷ xs) × (p x ≡ true))
    (λ t k. elim k [ inl e ↦ (inl e, ap p e ∙ t) | inr h ↦ (let r = in-filtered p x xs h in (inr r.0, r.1)) ])
    (λ t k. (let r = in-filtered p x xs k in (inr r.0, r.1))) i

in-option : {Y : Type 0} (y : Y) (o : Option Y) (ys : List Y) → IsIn y ys → IsIn y (cons_option o ys)
in-option y None ys i = i
in-option y (Some z) ys i = inr i

pub in-filter_map : {X Y : Type 0} (f : X → Option Y) (x : X) (y : Y) (xs : List X) → IsIn x xs → f x ≡ Some y → IsIn y (filter_map f xs)
in-filter_map f x y [] i e = absurd i
in-filter_map f x y (z ∷ xs) (inl same) e = subst (λ o. IsIn y (cons_option o (filter_map f xs))) (sym (ap f (sym same) ∙ e)) (inl refl)
in-filter_map f x y (z ∷ xs) (inr i) e = in-option y (f z) (filter_map f xs) (in-filter_map f x y xs i e)

pub in-numbers : (first count n : ℕ) → first ≤ n → n < first + count → IsIn n (numbers_from first count)
in-numbers first zero n l h = absurd (omega arith)
in-numbers first (suc count) n l h =
    elim (cases_lt first n) [
      | inl above ↦ inr (in-numbers (suc first) count n (omega arith) (omega arith))
      | inr same ↦ inl (omega arith)
    ]

pub any-in : {X : Type 0} (p : X → Bool) (x : X) (xs : List X) → IsIn x xs → p x ≡ true → list_any p xs ≡ true
any-in p x [] i t = absurd i
any-in p x (y ∷ xs) (inl e) t = or_left (p y) (list_any p xs) (ap p (sym e) ∙ t)
any-in p x (y ∷ xs) (inr i) t = or_right (p y) (list_any p xs) (any-in p x xs i t)

pub any-some : {X : Type 0} (p : X → Bool) (xs : List X) → list_any p xs ≡ true → (x : X) × IsIn x xs × (p x ≡ true)
any-some p [] h = absurd (false≢true h)
any-some p (x ∷ xs) h =
    elim (or_cases (p x) (list_any p xs) h) [
      | inl t ↦ (x, inl refl, t)
      | inr k ↦ (let (y, i, t) = any-some p xs k in (y, inr i, t))
    ]

pub some-in : {X : Type 0} (P : X → Type 0) (x : X) (xs : List X) → IsIn x xs → P x → SomeIs P xs
some-in P x [] i p = absurd i
some-in P x (y ∷ xs) (inl e) p = inl (subst P e p)
some-in P x (y ∷ xs) (inr i) p = inr (some-in P x xs i p)

pub some-left : {X : Type 0} (P : X → Type 0) (xs ys : List X) → SomeIs P xs → SomeIs P (xs ++ ys)
some-left P [] ys h = absurd h
some-left P (x ∷ xs) ys (inl p) = inl p
some-left P (x ∷ xs) ys (inr h) = inr (some-left P xs ys h)

pub some-get : {X : Type 0} (P : X → Type 0) (xs : List X) (k : ℕ) (x : X) → slice_get xs k ≡ Some x → P x → SomeIs P xs
some-get P [] k x e p = absurd cc
some-get P (y ∷ xs) zero x e p = inl (let same : y ≡ x = cc in subst P (sym same) p)
some-get P (y ∷ xs) (suc k) x e p = inr (some-get P xs k x e p)

-- where all items have a property, an item that is found has it
pub some-each : {X : Type 0} (P Q : X → Type 0) (C : Type 0) → ((x : X) → P x → Q x → C) → (xs : List X) → Each P xs → SomeIs Q xs → C
some-each P Q C f [] h s = absurd s
some-each P Q C f (x ∷ xs) h (inl q) = f x h.0 q
some-each P Q C f (x ∷ xs) h (inr s) = some-each P Q C f xs h.1 s

-- Properties of all items

pub each-in : {X : Type 0} (P : X → Type 0) (xs : List X) → ((x : X) → IsIn x xs → P x) → Each P xs
each-in P [] f = tt
each-in P (x ∷ xs) f = (f x (inl refl), each-in P xs (λ y i. f y (inr i)))

pub numbers-above : (first count : ℕ) → Each (λ n. first ≤ n) (numbers_from first count)
numbers-above first zero = tt
numbers-above first (suc count) = (
  omega arith,
  each-in (λ n. first ≤ n) (numbers_from (suc first) count)
      (λ n i. (let a : suc first ≤ n = in-each (λ m. suc first ≤ m) n (numbers_from (suc first) count)
      (numbers-above (suc first) count) i in omega arith)),
)

-- an item that is found is in the list, and passes the test
pub find-in : {X : Type 0} (p : X → Bool) (x : X) (xs : List X) → find p xs ≡ Some x → IsIn x xs × (p x ≡ true)
find-in p x [] e = absurd cc
find-in p x (y ∷ xs) e =
    cond_both (p y) (Some y) (find p xs) (λ o. o ≡ Some x → IsIn x (y ∷ xs) × (p x ≡ true))
    (λ t k. (let same : y ≡ x = cc in (inl (sym same), subst (λ z. p z ≡ true) same t)))
    (λ t k. (let r = find-in p x xs k in (inr r.0, r.1))) e

-- an item that a list contains is in it
pub contains-in : {X : Type 0} (xs : List X) (k : ℕ) (x : X) → k < length xs → slice_index_or xs k x ≡ x → IsIn x xs
contains-in [] k x l e = absurd (omega arith)
contains-in (y ∷ xs) zero x l e = inl (sym e)
contains-in (y ∷ xs) (suc k) x l e = inr (contains-in xs k x (omega arith) e)

-- and conversely
pub in-contains : {X : Type 0} (xs : List X) (x : X) → IsIn x xs → Contains xs x
in-contains [] x h = absurd h
in-contains (y ∷ xs) x (inl e) = (zero, omega arith, sym e)
in-contains (y ∷ xs) x (inr h) = (let r = in-contains xs x h in (suc r.0, omega (arith, r.1), r.2))

-- an item that passes is found
pub find-some : {X : Type 0} (p : X → Bool) (x : X) (xs : List X) → IsIn x xs → p x ≡ true → (y : X) × (find p xs ≡ Some y)
find-some p x [] i h = absurd i
find-some p x (y ∷ xs) i h =
    elim (cases_Bool (p y)) [
      | inl t ↦ (y, cond-true (p y) (Some y) (find p xs) t)
      | inr f ↦ elim i [
        | inl e ↦ absurd (both_ways (p y) f (subst (λ z. p z ≡ true) e h))
        | inr there ↦ (let r = find-some p x xs there h in (r.0, cond-false (p y) (Some y) (find p xs) f ∙ r.1))
      ]
    ]
