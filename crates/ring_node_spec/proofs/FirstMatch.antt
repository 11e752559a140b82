-- The first element that passes a test, and the elements that a prefix of a list keeps.
use Rattle.std.proofs.Common.{◌≡◌, ℕ, zero, suc, ◌<◌, ◌≤◌, nat_lt, Bool, true, false, List, [], ◌∷◌, length, take, All}
use Rattle.std.proofs.Common.{Option, Some, None, MatchOption, position, slice_get, get_or, refl, sym, subst, ap, ◌∙◌}
use Rattle.std.proofs.Common.{arith, inl, inr}
use Rattle.std.specs.List.{position_or_len}
use Rattle.std.proofs.lemmas.Bool.{cond-true, cases_lt}
use Rattle.std.proofs.lemmas.Bool.Decides.{nat_tests}
use Rattle.std.proofs.lemmas.List.Quantifiers.{position-Some}
use Rattle.std.proofs.lemmas.List.Sums.{fails_before_first}
use Rattle.std.proofs.lemmas.Option.{slice_get_within, get_or_from_slice_get, slice_get-get_or}
use Rattle.ring_base.proofs.ListPlaces.{has-place}

-- a fact of each element and its place, for the first n places
abbrev pub EachUpTo : {X : Type 0} → (ℕ → X → Type 0) → List X → ℕ → Type 0
EachUpTo {X} P xs n = (k : ℕ) (x : X) → k < n → slice_get xs k ≡ Some x → P k x

-- a fact of the element at each place is one of each element
pub all-from_places : {X : Type 0} (P : X → Type 0) (xs : List X) → ((k : ℕ) (x : X) → slice_get xs k ≡ Some x → P x) → All P xs
all-from_places P xs each k d within =
    let there = has-place xs k within in
    subst P (sym (get_or_from_slice_get xs k there.0 d there.1)) (each k there.0 there.1)

-- a prefix has only the first places
pub take-within : {X : Type 0} (n : ℕ) (xs : List X) (k : ℕ) (x : X) → slice_get (take n xs) k ≡ Some x → k < n
take-within zero xs k x at = absurd (cc at)
take-within (suc n) [] k x at = absurd (cc at)
take-within (suc n) (y ∷ ys) zero x at = omega arith
take-within (suc n) (y ∷ ys) (suc k) x at = omega (arith, take-within n ys k x at)

-- at these places it has the list's elements
pub take-get : {X : Type 0} (n : ℕ) (xs : List X) (k : ℕ) (x : X) → slice_get (take n xs) k ≡ Some x → slice_get xs k ≡ Some x
take-get zero xs k x at = absurd (cc at)
take-get (suc n) [] k x at = absurd (cc at)
take-get (suc n) (y ∷ ys) zero x at = at
take-get (suc n) (y ∷ ys) (suc k) x at = take-get n ys k x at

pub get-take : {X : Type 0} (n : ℕ) (xs : List X) (k : ℕ) (x : X) → k < n → slice_get xs k ≡ Some x → slice_get (take n xs) k ≡ Some x
get-take zero xs k x within at = absurd (omega (arith, within))
get-take (suc n) [] k x within at = absurd (cc at)
get-take (suc n) (y ∷ ys) zero x within at = at
get-take (suc n) (y ∷ ys) (suc k) x within at = get-take n ys k x (omega (arith, within)) at

-- what the test finds passes it
pub position-found : {X : Type 0} (p : X → Bool) (xs : List X) (i : ℕ) → position p xs ≡ Some i → (x : X) × (slice_get xs i ≡ Some x) × (p x ≡ true)
position-found p [] i is = absurd (cc is)
position-found p (x ∷ xs) i is =
    let found = position-Some p (x ∷ xs) i x is in
    (get_or (x ∷ xs) i x, slice_get-get_or (x ∷ xs) i x found.0, found.1)

-- an element that passes comes no earlier than the one that the test finds
pub position-least : {X : Type 0} (p : X → Bool) (xs : List X) (k : ℕ) (x : X) → slice_get xs k ≡ Some x → p x ≡ true
    → (i : ℕ) × (position p xs ≡ Some i) × (i ≤ k)
position-least p xs k x at passes =
    let within = slice_get_within xs k x at in
    let first = position_or_len p xs in
    elim (cases_lt k first) as (λ _. (i : ℕ) × (position p xs ≡ Some i) × (i ≤ k)) [
      | inl before ↦
          let here : p x ≡ false = ap p (sym (get_or_from_slice_get xs k x x at)) ∙ fails_before_first p xs k x before in
          absurd (cc (here, passes))
      | inr past ↦
          let inside : first < length xs = omega (arith, within, past) in
          let tested : nat_lt first (length xs) ≡ true = grind (arith, nat_tests, inside) in
          (first, cond-true (nat_lt first (length xs)) (Some first) None tested, past)
    ]

-- an option that has a value with a property
pub option-some : {X : Type 0} (o : Option X) (Q : X → Type 0) → MatchOption o ⊥ Q → (x : X) × (o ≡ Some x) × Q x
option-some None Q has = absurd has
option-some (Some x) Q has = (x, refl, has)

pub some-option : {X : Type 0} (o : Option X) (Q : X → Type 0) (x : X) → o ≡ Some x → Q x → MatchOption o ⊥ Q
some-option o Q x is holds = subst (λ w. MatchOption w ⊥ Q) (sym is) holds
