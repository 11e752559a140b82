-- Facts about each element of a list, as the list is taken apart or put together.
use Rattle.std.proofs.Common.{◌≡◌, ℕ, zero, suc, ◌++◌, List, [], ◌∷◌, map, Some, slice_get, refl, subst, drop, sym, Bool, true, Option, None}
use Rattle.std.specs.List.{AllByRecursion as Each, cons_option}
use Rattle.std.specs.Prelude.{take, reverse, filter, filter_map}
use Rattle.std.proofs.lemmas.List.{reverse-append}
use Rattle.std.proofs.lemmas.Bool.{cond_both}
use Rattle.ring_base.specs.Prefixes.{IsListPrefix}

-- a weaker fact
pub each-weaker : {X : Type 0} (P Q : X → Type 0) → ((x : X) → P x → Q x) → (xs : List X) → Each P xs → Each Q xs
each-weaker P Q f [] h = tt
each-weaker P Q f (x ∷ xs) h = (f x h.0, each-weaker P Q f xs h.1)

-- two lists, one appended to the other
pub each-append : {X : Type 0} (P : X → Type 0) (xs ys : List X) → Each P xs → Each P ys → Each P (xs ++ ys)
each-append P [] ys h k = k
each-append P (x ∷ xs) ys h k = (h.0, each-append P xs ys h.1 k)

-- one element more
pub each-push : {X : Type 0} (P : X → Type 0) (xs : List X) (x : X) → Each P xs → P x → Each P (xs ++ x ∷ [])
each-push P xs x h p = each-append P xs (x ∷ []) h (p, tt)

-- a prefix of the list
pub each-front : {X : Type 0} (P : X → Type 0) (xs ys : List X) → IsListPrefix xs ys → Each P ys → Each P xs
each-front P [] ys f h = tt
each-front P (x ∷ xs) [] f h = absurd (cc (f.1))
each-front P (x ∷ xs) (y ∷ ys) f h =
    let same : y ≡ x = cc (f.1) in
    (subst P same h.0, each-front P xs ys (f.0, cc (f.1)) h.1)

-- the element at a place
pub each-get : {X : Type 0} (P : X → Type 0) (xs : List X) (k : ℕ) (x : X) → Each P xs → slice_get xs k ≡ Some x → P x
each-get P [] k x h e = absurd cc
each-get P (y ∷ xs) zero x h e = let same : y ≡ x = cc in subst P same h.0
each-get P (y ∷ xs) (suc k) x h e = each-get P xs k x h.1 e

-- a fact about the element at each place holds of each element
pub each-placed : {X : Type 0} (P : X → Type 0) (xs : List X) → ((k : ℕ) (x : X) → slice_get xs k ≡ Some x → P x) → Each P xs
each-placed P [] f = tt
each-placed P (x ∷ xs) f = (f zero x refl, each-placed P xs (λ k y e. f (suc k) y e))

-- the images of the elements under a function
pub each-map : {X Y : Type 0} (P : Y → Type 0) (f : X → Y) (xs : List X) → Each (λ x. P (f x)) xs → Each P (map f xs)
each-map P f [] h = tt
each-map P f (x ∷ xs) h = (h.0, each-map P f xs h.1)

-- two facts of each
pub each-both : {X : Type 0} (P Q : X → Type 0) → (xs : List X) → Each P xs → Each Q xs → Each (λ x. P x × Q x) xs
each-both P Q [] h k = tt
each-both P Q (x ∷ xs) h k = ((h.0, k.0), each-both P Q xs h.1 k.1)

-- a fact about two lists appended holds of each element of the first
pub each-left : {X : Type 0} (P : X → Type 0) (xs ys : List X) → Each P (xs ++ ys) → Each P xs
each-left P [] ys h = tt
each-left P (x ∷ xs) ys h = (h.0, each-left P xs ys h.1)

-- and of each element of the second
pub each-right : {X : Type 0} (P : X → Type 0) (xs ys : List X) → Each P (xs ++ ys) → Each P ys
each-right P [] ys h = h
each-right P (x ∷ xs) ys h = each-right P xs ys h.1

-- the first element
pub each-take : {X : Type 0} (P : X → Type 0) (n : ℕ) (xs : List X) → Each P xs → Each P (take n xs)
each-take P zero xs h = tt
each-take P (suc n) [] h = tt
each-take P (suc n) (x ∷ xs) h = (h.0, each-take P n xs h.1)

-- the elements after the first
pub each-drop : {X : Type 0} (P : X → Type 0) (n : ℕ) (xs : List X) → Each P xs → Each P (drop n xs)
each-drop P zero xs h = h
each-drop P (suc n) [] h = tt
each-drop P (suc n) (x ∷ xs) h = each-drop P n xs h.1

-- the list from its end
pub each-reverse : {X : Type 0} (P : X → Type 0) (xs : List X) → Each P xs → Each P (reverse xs)
each-reverse P [] h = tt
each-reverse P (x ∷ xs) h = subst (Each P) (sym (reverse-append (x ∷ []) xs)) (each-append P (reverse xs) (x ∷ []) (each-reverse P xs h.1) (h.0, tt))

-- the elements that a filter keeps
pub each-filter : {X : Type 0} (P : X → Type 0) (p : X → Bool) (xs : List X) → Each P xs → Each P (filter p xs)
each-filter P p [] h = tt
each-filter P p (x ∷ xs) h = cond_both (p x) (x ∷ filter p xs) (filter p xs) (Each P) (λ e. (h.0, each-filter P p xs h.1)) (λ e. each-filter P p xs h.1)

-- another fact about the elements that a filter keeps, by its test
pub each-filtered : {X : Type 0} (P Q : X → Type 0) (p : X → Bool) → ((x : X) → P x → p x ≡ true → Q x) → (xs : List X) → Each P xs → Each Q (filter p xs)
each-filtered P Q p f [] h = tt
each-filtered P Q p f (x ∷ xs) h =
    cond_both (p x) (x ∷ filter p xs) (filter p xs) (Each Q) (λ e. (f x h.0 e, each-filtered P Q p f xs h.1)) (λ e. each-filtered P Q p f xs h.1)

each-cons_option : {Y : Type 0} (Q : Y → Type 0) (o : Option Y) (ys : List Y) → ((y : Y) → o ≡ Some y → Q y) → Each Q ys → Each Q (cons_option o ys)
each-cons_option Q None ys f h = h
each-cons_option Q (Some y) ys f h = (f y refl, h)

-- a fact about the images under a function
pub each-filter_map : {X Y : Type 0} (P : X → Type 0) (Q : Y → Type 0) (f : X → Option Y) → ((x : X) (y : Y) → P x → f x ≡ Some y → Q y) → (xs : List X) →
    Each P xs → Each Q (filter_map f xs)
each-filter_map P Q f g [] h = tt
each-filter_map P Q f g (x ∷ xs) h = each-cons_option Q (f x) (filter_map f xs) (λ y e. g x y h.0 e) (each-filter_map P Q f g xs h.1)
