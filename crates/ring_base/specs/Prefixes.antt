-- Prefixes of lists, including the empty list and the whole list.
use Rattle.std.proofs.Common.{◌≡◌, ℕ, zero, suc, ◌≤◌, List, [], ◌∷◌, ◌++◌, length, Some, slice_get, refl, ap, sym, ◌∙◌, arith, append_assoc, length-append}

-- the first list is a prefix of the second: there is a rest that completes it
abbrev pub IsListPrefix : {A : Type 0} → List A → List A → Type 0
IsListPrefix {A} xs ys = (rest : List A) × (xs ++ rest ≡ ys)

-- each list is a prefix of itself
pub prefix_self : {A : Type 0} (xs : List A) → IsListPrefix xs xs
prefix_self [] = ([], refl)
prefix_self (x ∷ xs) = let s = prefix_self xs in (s.0, ap (λ ys. x ∷ ys) s.1)

-- a prefix of a prefix is a prefix
pub prefix_trans : {A : Type 0} (xs ys zs : List A) → IsListPrefix xs ys → IsListPrefix ys zs → IsListPrefix xs zs
prefix_trans xs ys zs p q = (p.0 ++ q.0, sym (append_assoc xs p.0 q.0) ∙ (ap (λ w. w ++ q.0) p.1 ∙ q.1))

-- of two prefixes of one list, the shorter is a prefix of the longer
pub prefix_shorter : {A : Type 0} (xs ys zs : List A) → IsListPrefix xs zs → IsListPrefix ys zs → length xs ≤ length ys → IsListPrefix xs ys
prefix_shorter [] ys zs p q le = (ys, refl)
prefix_shorter (x ∷ xs) [] zs p q le = absurd (omega arith)
prefix_shorter (x ∷ xs) (y ∷ ys) [] p q le = absurd (cc (p.1))
prefix_shorter (x ∷ xs) (y ∷ ys) (z ∷ zs) p q le =
    let heads : x ≡ y = cc (p.1, q.1) in
    let rest = prefix_shorter xs ys zs (p.0, cc (p.1)) (q.0, cc (q.1)) (omega arith) in
    (rest.0, cc (heads, rest.1))

-- a prefix isn't longer than the list
pub prefix_length : {A : Type 0} (xs ys : List A) → IsListPrefix xs ys → length xs ≤ length ys
prefix_length xs ys p = omega (arith, sym (ap length p.1) ∙ length-append xs p.0)

-- a prefix as long as the list is the list
pub prefix_whole : {A : Type 0} (xs ys : List A) → IsListPrefix xs ys → length ys ≤ length xs → xs ≡ ys
prefix_whole [] [] p le = refl
prefix_whole [] (y ∷ ys) p le = absurd (omega arith)
prefix_whole (x ∷ xs) [] p le = absurd (cc (p.1))
prefix_whole (x ∷ xs) (y ∷ ys) p le = let rest = prefix_whole xs ys (p.0, cc (p.1)) (omega arith) in cc (p.1, rest)

-- an element of a prefix is in the list, at the same index
pub prefix_get : {A : Type 0} (xs ys : List A) (k : ℕ) (x : A) → IsListPrefix xs ys → slice_get xs k ≡ Some x → slice_get ys k ≡ Some x
prefix_get [] ys k x p h = absurd cc
prefix_get (y ∷ xs) [] k x p h = absurd (cc (p.1))
prefix_get (y ∷ xs) (z ∷ ys) zero x p h = cc (p.1, h)
prefix_get (y ∷ xs) (z ∷ ys) (suc k) x p h = prefix_get xs ys k x (p.0, cc (p.1)) h

-- each list is a prefix of itself with another list appended
pub prefix_append : {A : Type 0} (xs ys : List A) → IsListPrefix xs (xs ++ ys)
prefix_append xs ys = (ys, refl)
