-- The smallest numbers of two lists, of which the first ascends, one after another.
use Rattle.std.proofs.Common.{◌≡◌, ℕ, zero, suc, ◌-◌, ◌<◌, ◌≤◌, List, [], ◌∷◌, ◌++◌, length, take, refl, sym, ap, ◌∙◌}
use Rattle.std.proofs.Common.{arith, inl, inr, append_assoc, length-append, subst, append-nil, min, Some, None}
use Rattle.std.specs.Prelude.{nat_lt, ◌==◌, if◌then◌else◌}
use Rattle.std.specs.List.{AllByRecursion}
use Rattle.std.specs.List.Sorted.{IsStrictlyIncreasing}
use Rattle.std.proofs.lemmas.Bool.{cases_lt, cond_both, cond-true, cond-false, lt-ltb, le-ltb, eq-eqb, ne_eqb}
use Rattle.ring_base.specs.Numbers.{insert_ascending, merged_ascending}
use Rattle.ring_base.proofs.ListFronts.{take-nil}
use Rattle.ring_token.specs.Requesting.{least_first, after}
use Rattle.ring_wire.specs.Ascending.{IsStrictlyIncreasing-rest}

-- All are above a number.
abbrev pub AllAbove : ℕ → List ℕ → Type 0
AllAbove x xs = AllByRecursion (λ y. x < y) xs

-- Each is below all that follow.
abbrev pub Ascends : List ℕ → Type 0
Ascends [] = Unit {0}
Ascends (x ∷ xs) = AllAbove x xs × Ascends xs

-- The first, if there is one, is above a number.
abbrev pub FirstAbove : ℕ → List ℕ → Type 0
FirstAbove x [] = Unit {0}
FirstAbove x (y ∷ ys) = x < y

weaker : (x y : ℕ) (ys : List ℕ) → x < y → AllAbove y ys → AllAbove x ys
weaker x y [] l h = tt
weaker x y (z ∷ ys) l h = ((let k : y < z = h.0 in omega arith), weaker x y ys l h.1)

above_first : (x : ℕ) (xs : List ℕ) → IsStrictlyIncreasing (x ∷ xs) → AllAbove x xs
above_first x [] h = tt
above_first x (y ∷ ys) h = (let l : x < y = h zero (omega arith) in (l, weaker x y ys l (above_first y ys (IsStrictlyIncreasing-rest x (y ∷ ys) h))))

pub ascending : (xs : List ℕ) → IsStrictlyIncreasing xs → Ascends xs
ascending [] h = tt
ascending (x ∷ xs) h = (above_first x xs h, ascending xs (IsStrictlyIncreasing-rest x xs h))

-- Inserting a number.

first_put : (x : ℕ) (ys : List ℕ) → FirstAbove x ys → insert_ascending x ys ≡ x ∷ ys
first_put x [] h = refl
first_put x (y ∷ ys) h = cond-true (nat_lt x y) _ _ (lt-ltb x y h)

same_put : (x : ℕ) (ys : List ℕ) → insert_ascending x (x ∷ ys) ≡ x ∷ ys
same_put x ys = cond-false (nat_lt x x) _ _ (le-ltb x x (omega arith)) ∙ cond-true (x == x) _ _ (eq-eqb x x refl)

later_put : (x y : ℕ) (ys : List ℕ) → y < x → insert_ascending x (y ∷ ys) ≡ y ∷ insert_ascending x ys
later_put x y ys l = cond-false (nat_lt x y) _ _ (le-ltb x y (omega arith)) ∙ cond-false (x == y) _ _ (ne_eqb x y (λ e. omega arith))

-- The least of both comes first.

pub second_first : (xs : List ℕ) (y : ℕ) (ys : List ℕ) → AllAbove y xs → merged_ascending xs (y ∷ ys) ≡ y ∷ merged_ascending xs ys
second_first [] y ys h = refl
second_first (x ∷ xs) y ys h = ap (insert_ascending x) (second_first xs y ys h.1) ∙ later_put x y (merged_ascending xs ys) h.0

put_above : (x y : ℕ) (ys : List ℕ) → x < y → FirstAbove x ys → FirstAbove x (insert_ascending y ys)
put_above x y [] l h = l
put_above x y (z ∷ ys) l h =
    cond_both (nat_lt y z) (y ∷ z ∷ ys) (if y == z then z ∷ ys else z ∷ insert_ascending y ys) (FirstAbove x) (λ e. l)
    (λ e. cond_both (y == z) (z ∷ ys) (z ∷ insert_ascending y ys) (FirstAbove x) (λ e. h) (λ e. h))

both_above : (x : ℕ) (xs ys : List ℕ) → AllAbove x xs → FirstAbove x ys → FirstAbove x (merged_ascending xs ys)
both_above x [] ys h k = k
both_above x (y ∷ xs) ys h k = put_above x y (merged_ascending xs ys) h.0 (both_above x xs ys h.1 k)

pub first_first : (x : ℕ) (xs ys : List ℕ) → AllAbove x xs → FirstAbove x ys → merged_ascending (x ∷ xs) ys ≡ x ∷ merged_ascending xs ys
first_first x xs ys h k = first_put x (merged_ascending xs ys) (both_above x xs ys h k)

pub same_first : (x : ℕ) (xs ys : List ℕ) → AllAbove x xs → merged_ascending (x ∷ xs) (x ∷ ys) ≡ x ∷ merged_ascending xs ys
same_first x xs ys h = ap (insert_ascending x) (second_first xs x ys h) ∙ same_put x (merged_ascending xs ys)

-- All that are above a number are above each below it.
pub second_below : (x y : ℕ) (xs : List ℕ) → y < x → AllAbove x xs → AllAbove y (x ∷ xs)
second_below x y xs l h = (l, weaker y x xs l h)

-- The first n of both together need only the first n of the second

take_again : (n : ℕ) (xs : List ℕ) → take n (take n xs) ≡ take n xs
take_again zero xs = refl
take_again (suc n) [] = refl
take_again (suc n) (x ∷ xs) = ap (λ l. x ∷ l) (take_again n xs)

take_shorter : (n : ℕ) (xs : List ℕ) → take n (take (suc n) xs) ≡ take n xs
take_shorter zero xs = refl
take_shorter (suc n) [] = refl
take_shorter (suc n) (x ∷ xs) = ap (λ l. x ∷ l) (take_shorter n xs)

take_after : (n x : ℕ) (xs : List ℕ) → take n (x ∷ take n xs) ≡ take n (x ∷ xs)
take_after zero x xs = refl
take_after (suc n) x xs = ap (λ l. x ∷ l) (take_shorter n xs)

take_put_same : (n x : ℕ) (ys : List ℕ) → take (suc n) (insert_ascending x (x ∷ take n ys)) ≡ take (suc n) (insert_ascending x (x ∷ ys))
take_put_same n x ys = ap (take (suc n)) (same_put x (take n ys)) ∙ ap (λ l. x ∷ l) (take_again n ys) ∙ sym (ap (take (suc n)) (same_put x ys))

take_put : (n x : ℕ) (ys : List ℕ) → take n (insert_ascending x (take n ys)) ≡ take n (insert_ascending x ys)
take_put zero x ys = refl
take_put (suc n) x [] = refl
take_put (suc n) x (y ∷ ys) =
    elim (cases_lt x y) [
      | inl l ↦ ap (take (suc n)) (first_put x (y ∷ take n ys) l) ∙ ap (λ l. x ∷ l) (take_after n y ys) ∙ sym (ap (take (suc n)) (first_put x (y ∷ ys) l))
      | inr g ↦ elim (cases_lt y x) [
        | inl l ↦ ap (take (suc n)) (later_put x y (take n ys) l) ∙ ap (λ l. y ∷ l) (take_put n x ys) ∙ sym (ap (take (suc n)) (later_put x y ys l))
        | inr k ↦ (let e : x ≡ y = omega arith in
            subst (λ (z : ℕ). take (suc n) (insert_ascending x (z ∷ take n ys)) ≡ take (suc n) (insert_ascending x (z ∷ ys))) e (take_put_same n x ys))
      ]
    ]

pub take_merged : (n : ℕ) (xs ys : List ℕ) → take n (merged_ascending xs (take n ys)) ≡ take n (merged_ascending xs ys)
take_merged n [] ys = take_again n ys
take_merged n (x ∷ xs) ys =
    sym (take_put n x (merged_ascending xs (take n ys))) ∙ ap (λ l. take n (insert_ascending x l)) (take_merged n xs ys) ∙ take_put n x (merged_ascending xs ys)

-- One more number is taken

pub taken_more : (n x : ℕ) (sofar rest : List ℕ) → length sofar < n → sofar ++ take (n - length sofar) (x ∷ rest)
    ≡ (sofar ++ x ∷ []) ++ take (n - length (sofar ++ x ∷ [])) rest
taken_more n x sofar rest l =
    let e : n - length sofar ≡ suc (n - suc (length sofar)) = omega arith in
    let f : n - length (sofar ++ x ∷ []) ≡ n - suc (length sofar) = omega (arith, length-append sofar (x ∷ [])) in
    ap (λ m. sofar ++ take m (x ∷ rest)) e ∙ sym (append_assoc sofar (x ∷ []) (take (n - suc (length sofar)) rest))
    ∙ ap (λ m. (sofar ++ x ∷ []) ++ take m rest) (sym f)

-- The lesser first number is the first of both

-- The rest, after the first is taken.
pub record IsStep (n : ℕ) (xs ys : List ℕ) : Type 0 where
  pub is : merged_ascending xs ys ≡ n ∷ merged_ascending (after n xs) (after n ys)
  pub ascends : Ascends (after n xs)

after_same : (n : ℕ) (xs : List ℕ) → after n (n ∷ xs) ≡ xs
after_same n xs = cond-true (n == n) xs (n ∷ xs) (eq-eqb n n refl)

after_other : (n x : ℕ) (xs : List ℕ) → (x ≡ n → ⊥) → after n (x ∷ xs) ≡ x ∷ xs
after_other n x xs ne = cond-false (x == n) xs (x ∷ xs) (ne_eqb x n ne)

left_step : (x : ℕ) (xs ys : List ℕ) → Ascends (x ∷ xs) → FirstAbove x ys → after x ys ≡ ys → IsStep x (x ∷ xs) ys
left_step x xs ys a f e =
    record {
      is = first_first x xs ys a.0 f ∙ ap (λ l. x ∷ merged_ascending l ys) (sym (after_same x xs)) ∙ ap (λ l. x ∷ merged_ascending (after x (x ∷ xs)) l) (sym e);
      ascends = subst Ascends (sym (after_same x xs)) a.1;
    }

both_step : (x : ℕ) (xs ys : List ℕ) → Ascends (x ∷ xs) → IsStep x (x ∷ xs) (x ∷ ys)
both_step x xs ys a =
    record {
      is = same_first x xs ys a.0 ∙ ap (λ l. x ∷ merged_ascending l ys) (sym (after_same x xs)) ∙ ap (λ l. x ∷ merged_ascending (after x (x ∷ xs)) l) (sym (after_same x ys));
      ascends = subst Ascends (sym (after_same x xs)) a.1;
    }

right_step : (x y : ℕ) (xs ys : List ℕ) → Ascends (x ∷ xs) → y < x → IsStep y (x ∷ xs) (y ∷ ys)
right_step x y xs ys a l =
    let e : after y (x ∷ xs) ≡ x ∷ xs = after_other y x xs (λ q. omega arith) in
    record {
      is = second_first (x ∷ xs) y ys (second_below x y xs l a.0) ∙ ap (λ k. y ∷ merged_ascending k ys) (sym e)
          ∙ ap (λ k. y ∷ merged_ascending (after y (x ∷ xs)) k) (sym (after_same y ys));
      ascends = subst Ascends (sym e) a;
    }

pub step : (xs ys : List ℕ) (n : ℕ) → Ascends xs → least_first xs ys ≡ Some n → IsStep n xs ys
step [] [] n a e = absurd cc
step [] (y ∷ ys) n a e =
    let same : y ≡ n = cc in
    subst (λ (m : ℕ). IsStep m [] (y ∷ ys)) same (record { is = ap (λ l. y ∷ l) (sym (after_same y ys)); ascends = tt })
step (x ∷ xs) [] n a e =
    let same : x ≡ n = cc in
    subst (λ (m : ℕ). IsStep m (x ∷ xs) []) same (left_step x xs [] a tt refl)
step (x ∷ xs) (y ∷ ys) n a e =
    let same : min x y ≡ n = cc in
    elim (cases_lt x y) [
      | inl l ↦ (let f : x ≡ n = omega arith in subst (λ (m : ℕ). IsStep m (x ∷ xs) (y ∷ ys)) f
          (left_step x xs (y ∷ ys) a l (after_other x y ys (λ q. omega arith))))
      | inr g ↦ elim (cases_lt y x) [
        | inl l ↦ (let f : y ≡ n = omega arith in subst (λ (m : ℕ). IsStep m (x ∷ xs) (y ∷ ys)) f (right_step x y xs ys a l))
        | inr k ↦ (let f : x ≡ n = omega arith in let h : x ≡ y = omega arith in
            subst (λ (m : ℕ). IsStep m (x ∷ xs) (y ∷ ys)) f (subst (λ (z : ℕ). IsStep x (x ∷ xs) (z ∷ ys)) h (both_step x xs ys a)))
      ]
    ]

pub nothing_left : (xs ys : List ℕ) → least_first xs ys ≡ None → merged_ascending xs ys ≡ []
nothing_left [] [] e = refl
nothing_left [] (y ∷ ys) e = absurd cc
nothing_left (x ∷ xs) [] e = absurd cc
nothing_left (x ∷ xs) (y ∷ ys) e = absurd cc

-- So far, and in the end

-- Those taken so far, and the rest of both.
pub record AreTaken (sofar xs ys all : List ℕ) : Type 0 where
  pub few : length sofar ≤ 32
  pub ascends : Ascends xs
  pub is : sofar ++ take (32 - length sofar) (merged_ascending xs ys) ≡ all

pub taken : (sofar xs ys all : List ℕ) (n : ℕ) → length sofar < 32 → least_first xs ys ≡ Some n
    → AreTaken sofar xs ys all → AreTaken (sofar ++ n ∷ []) (after n xs) (after n ys) all
taken sofar xs ys all n l e t =
    let s = step xs ys n t.ascends e in
    record {
      few = omega (arith, length-append sofar (n ∷ []));
      ascends = s.ascends;
      is = sym (taken_more 32 n sofar (merged_ascending (after n xs) (after n ys)) l) ∙ ap (λ k. sofar ++ take (32 - length sofar) k) (sym s.is) ∙ t.is;
    }

-- The first 32 missing numbers serve as well as all.
pub whole : (sofar remaining_requests missing lacking : List ℕ) → sofar ≡ take 32 (merged_ascending remaining_requests missing) → missing ≡ take 32 lacking → sofar ≡ take 32 (merged_ascending remaining_requests lacking)
whole sofar remaining_requests missing lacking e m = e ∙ ap (λ l. take 32 (merged_ascending remaining_requests l)) m ∙ take_merged 32 remaining_requests lacking

pub all_taken : (sofar xs ys all : List ℕ) → 32 ≤ length sofar → AreTaken sofar xs ys all → sofar ≡ all
all_taken sofar xs ys all l t =
    let e : 32 - length sofar ≡ 0 = omega arith in
    sym (append-nil sofar) ∙ ap (λ k. sofar ++ take k (merged_ascending xs ys)) (sym e) ∙ t.is

pub none_left : (sofar xs ys all : List ℕ) → least_first xs ys ≡ None → AreTaken sofar xs ys all → sofar ≡ all
none_left sofar xs ys all e t =
    sym (append-nil sofar) ∙ ap (λ k. sofar ++ k) (sym (take-nil (32 - length sofar)))
    ∙ ap (λ k. sofar ++ take (32 - length sofar) k) (sym (nothing_left xs ys e)) ∙ t.is

pub begun : (remaining_requests missing : List ℕ) → IsStrictlyIncreasing remaining_requests → AreTaken [] remaining_requests missing (take 32 (merged_ascending remaining_requests missing))
begun remaining_requests missing h = record { few = omega arith; ascends = ascending remaining_requests h; is = refl }
