-- Prefixes of a list: of two prefixes of one list, prefixes appended, and the first elements of a list and of a
-- longer one.
use Rattle.std.proofs.Common.{◌≡◌, ℕ, ◌+◌, ◌-◌, ◌≤◌, List, ◌++◌, take, drop, ap, sym, ◌∙◌, zero, suc, [], ◌∷◌, refl, length, arith, ◌⊎◌, inl, inr}
use Rattle.std.proofs.lemmas.List.{take-append-drop, take-take, take_min, take_all, length-drop}
use Rattle.std.proofs.lemmas.Bool.{cases_lt}
use Rattle.std.proofs.Math.Seq.{drop-nil}
use Rattle.std.specs.Prelude.{min}
use Rattle.ring_base.specs.Prefixes.{IsListPrefix, prefix_whole, prefix_shorter}

-- the first elements of a list are a prefix of more of its first elements
pub take-longer_list : {X : Type 0} (m n : ℕ) (xs : List X) → m ≤ n → IsListPrefix (take m xs) (take n xs)
take-longer_list m n xs le = (drop m (take n xs), ap (λ w. w ++ drop m (take n xs)) (sym (take-take m n xs le)) ∙ take-append-drop m (take n xs))

-- the first elements of a list are a prefix of it
pub taken-front : {X : Type 0} (n : ℕ) (xs : List X) → IsListPrefix (take n xs) xs
taken-front n xs = (drop n xs, take-append-drop n xs)

-- the first elements of a list are a prefix of those of a longer list
pub take-append-front : {X : Type 0} (n : ℕ) (xs ys : List X) → IsListPrefix (take n xs) (take n (xs ++ ys))
take-append-front zero xs ys = ([], refl)
take-append-front (suc n) [] ys = (take (suc n) ys, refl)
take-append-front (suc n) (x ∷ xs) ys = let f = take-append-front n xs ys in (f.0, ap (λ w. x ∷ w) f.1)

-- a prefix that is long enough has the list's first elements
pub take-front : {X : Type 0} (xs ys : List X) (k : ℕ) → IsListPrefix xs ys → k ≤ length xs → take k ys ≡ take k xs
take-front xs ys zero f l = refl
take-front [] ys (suc k) f l = absurd (omega arith)
take-front (x ∷ xs) [] (suc k) f l = absurd (cc (f.1))
take-front (x ∷ xs) (y ∷ ys) (suc k) f l =
    let rest : take k ys ≡ take k xs = take-front xs ys k (f.0, cc (f.1)) (omega arith) in
    cc (f.1, rest)

-- as many first elements of the list as a prefix has are the prefix
pub take-whole : {X : Type 0} (xs ys : List X) → IsListPrefix xs ys → take (length xs) ys ≡ xs
take-whole [] ys f = refl
take-whole (a ∷ xs) [] f = absurd (cc (f.1))
take-whole (a ∷ xs) (b ∷ ys) f = let rest : take (length xs) ys ≡ xs = take-whole xs ys (f.0, cc (f.1)) in cc (f.1, rest)

-- the first elements of two lists appended
pub take-append : {X : Type 0} (n : ℕ) (xs ys : List X) → take n (xs ++ ys) ≡ take n xs ++ take (n - length xs) ys
take-append zero xs ys = (let e : 0 - length xs ≡ 0 = omega arith in rw e refl)
take-append (suc n) [] ys = (let e : suc n - 0 ≡ suc n = omega arith in rw e refl)
take-append (suc n) (x ∷ xs) ys = (let e : suc n - suc (length xs) ≡ n - length xs = omega arith in rw e (ap (λ zs. x ∷ zs) (take-append n xs ys)))

-- a prefix of a list, and a prefix of the list's rest after it
pub front-on : {X : Type 0} (xs ys zs : List X) → IsListPrefix xs zs → IsListPrefix ys (drop (length xs) zs) → IsListPrefix (xs ++ ys) zs
front-on [] ys zs f g = g
front-on (x ∷ xs) ys [] f g = absurd (cc (f.1))
front-on (x ∷ xs) ys (z ∷ zs) f g =
    let same : x ≡ z = cc (f.1) in
    let rest = front-on xs ys zs (f.0, cc (f.1)) g in
    (rest.0, cc (same, rest.1))

-- the first elements, then a prefix of the rest that reaches the end, are the whole list
pub take-on : {X : Type 0} (k : ℕ) (xs ys : List X) → IsListPrefix ys (drop k xs) → length xs ≤ k + length ys → take k xs ++ ys ≡ xs
take-on zero xs ys f l = prefix_whole ys xs f (omega (arith, l))
take-on (suc k) [] [] f l = refl
take-on (suc k) [] (y ∷ ys) f l = absurd (cc (f.1))
take-on (suc k) (x ∷ xs) ys f l = ap (λ w. x ∷ w) (take-on k xs ys f (omega (arith, l)))

-- dropping some elements, then some more
pub drop-more : {X : Type 0} (m n : ℕ) (xs : List X) → drop n (drop m xs) ≡ drop (m + n) xs
drop-more zero n xs = let e : 0 + n ≡ n = omega arith in rw e refl
drop-more (suc m) n [] = drop-nil n ∙ sym (drop-nil (suc m + n))
drop-more (suc m) n (x ∷ xs) = let e : suc m + n ≡ suc (m + n) = omega arith in rw e (drop-more m n xs)

-- of two prefixes of one list, one is a prefix of the other
pub front-either : {X : Type 0} (xs ys zs : List X) → IsListPrefix xs zs → IsListPrefix ys zs → IsListPrefix xs ys ⊎ IsListPrefix ys xs
front-either xs ys zs f g = elim (cases_lt (length xs) (length ys)) [
  | inl less ↦ inl (prefix_shorter xs ys zs f g (omega (arith, less)))
  | inr least ↦ inr (prefix_shorter ys xs zs g f least)
]

-- the first elements of the empty list
pub take-nil : (k : ℕ) → take {A = ℕ} k [] ≡ []
take-nil zero = refl
take-nil (suc k) = refl

-- a prefix that is no longer than the list
pub take_shorter : {X : Type 0} (n : ℕ) (xs : List X) → take (min (length xs) n) xs ≡ take n xs
take_shorter n xs = let e : min (length xs) n ≡ min n (length xs) = omega arith in rw e (take_min n xs)

-- the elements after a place, up to the end
pub rest_whole : {X : Type 0} (start : ℕ) (xs : List X) → take (length xs - start) (drop start xs) ≡ drop start xs
rest_whole start xs = take_all (length xs - start) (drop start xs) (omega (arith, length-drop start xs))
