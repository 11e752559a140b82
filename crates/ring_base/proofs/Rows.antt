-- One step of a loop over a list.
use Rattle.std.proofs.Common.{◌≡◌, ℕ, zero, suc, ◌+◌, ◌<◌, List, [], ◌∷◌, ◌++◌, length, take, drop, get_or, slice_get, Some, ap, sym, ◌∙◌, add-one, arith}
use Rattle.std.proofs.Common.{◌-◌, All}
use Rattle.std.proofs.lemmas.List.Elements.{All-push}

-- the rest of a list begins with the element at the place
pub drop-next : {X : Type 0} (xs : List X) (i : ℕ) (x : X) → i < length xs → x ≡ get_or xs i x → drop i xs ≡ x ∷ drop (i + 1) xs
drop-next [] i x lt is = absurd (omega arith)
drop-next (y ∷ xs) zero x lt is = ap (λ w. w ∷ xs) (sym is)
drop-next (y ∷ xs) (suc i) x lt is =
    let same : suc (i + 1) ≡ suc i + 1 = omega arith in
    drop-next xs i x (omega arith) is ∙ ap (λ k. x ∷ drop k (y ∷ xs)) same

-- the visited part ends with that element
pub take-next : {X : Type 0} (xs : List X) (i : ℕ) (x : X) → i < length xs → x ≡ get_or xs i x → take (i + 1) xs ≡ take i xs ++ x ∷ []
take-next [] i x lt is = absurd (omega arith)
take-next (y ∷ xs) zero x lt is = ap (λ w. w ∷ []) (sym is)
take-next (y ∷ xs) (suc i) x lt is =
    let same : suc i + 1 ≡ suc (i + 1) = omega arith in
    ap (λ k. take k (y ∷ xs)) same ∙ ap (λ w. y ∷ w) (take-next xs i x (omega arith) is)

-- the same for the element that is found there
pub take-found : {X : Type 0} (xs : List X) (i : ℕ) (x : X) → slice_get xs i ≡ Some x → take (suc i) xs ≡ take i xs ++ x ∷ []
take-found [] i x e = absurd (cc e)
take-found (y ∷ xs) zero x e = cc e
take-found (y ∷ xs) (suc i) x e = ap (λ w. y ∷ w) (take-found xs i x e)

pub take-more : {X : Type 0} (xs : List X) (i : ℕ) (x : X) → slice_get xs i ≡ Some x → take (i + 1) xs ≡ take i xs ++ x ∷ []
take-more xs i x e = ap (λ n. take n xs) (add-one i) ∙ take-found xs i x e

-- the number of elements left: one, and those after it
pub left-next : (most counter : ℕ) → counter < most → most - counter ≡ suc (most - (counter + 1))
left-next most counter l = omega arith

-- a fact about all elements of a list and about the pushed one holds of all elements afterwards
pub pushed : {X : Type 0} (P : X → Type 0) (xs ys : List X) (x : X) → All P xs → P x → ys ≡ xs ++ x ∷ [] → All P ys
pushed P xs ys x all one e = rw e (All-push P xs x all one)
