-- Decoding names one after the other.
use Rattle.std.proofs.Common.{◌≡◌, ℕ, suc, ◌+◌, ◌-◌, ◌<◌, ◌≤◌, Bool, false, true, ◌==◌, if◌then◌else◌, List, [], ◌∷◌}
use Rattle.std.proofs.Common.{◌++◌, length, drop, Option, Some, None, is_some, IsSome, refl, sym, ap, ◌∙◌, arith}
use Rattle.std.proofs.Common.{append_assoc, append-nil}
use Rattle.std.proofs.lemmas.Bool.{false≢true}
use Rattle.std.specs.Option.{option_map, option_and_then}
use Rattle.ring_things.specs.Names.{next_name, names_of}
use Rattle.ring_base.proofs.Rows.{left-next}

-- Decoding a name, then the others.
pub names_of-next : (count i : ℕ) (last bytes name : List ℕ) → i < count → next_name last bytes ≡ Some name →
    names_of (count - i) last bytes ≡ option_map (λ names. name ∷ names) (names_of (count - (i + 1)) name (drop (suc (length name)) bytes))
unfolding names_of
names_of-next count i last bytes name less is = rw (left-next count i less, is) refl

pub names_of-none : (count i : ℕ) (last bytes : List ℕ) → i < count → next_name last bytes ≡ None → names_of (count - i) last bytes ≡ None
unfolding names_of
names_of-none count i last bytes less is = rw (left-next count i less, is) refl

-- Nothing is left to decode.
pub names_of-end : (count i : ℕ) (last bytes : List ℕ) → count ≤ i → names_of (count - i) last bytes ≡ (if length bytes == 0 then Some [] else None)
unfolding names_of
names_of-end count i last bytes all = let none : count - i ≡ 0 = omega arith in rw none refl

pub is_some-option_map : {A B : Type 0} (f : A → B) (o : Option A) → is_some (option_map f o) ≡ is_some o
is_some-option_map f (Some x) = refl
is_some-option_map f None = refl

-- Names before and after one more.
pub option_map-push : {A : Type 0} (xs : List A) (x : A) (o : Option (List A)) → option_map (λ ys. xs ++ ys)
    (option_map (λ ys. x ∷ ys) o) ≡ option_map (λ ys. (xs ++ x ∷ []) ++ ys) o
option_map-push xs x (Some ys) = ap Some (sym (append_assoc xs (x ∷ []) ys))
option_map-push xs x None = refl

front_there : {A B : Type 0} (f : A → Option B) (front : Option A) → is_some (option_and_then f front) ≡ true → IsSome front
front_there f (Some x) is = refl
front_there f None is = absurd cc

-- If something can be decoded, a name is at the start.
pub next_there : (count i : ℕ) (last bytes : List ℕ) → i < count → is_some (names_of (count - i) last bytes) ≡ true → IsSome (next_name last bytes)
unfolding names_of
next_there count i last bytes less there = front_there (λ name. option_map (λ names. name ∷ names)
    (names_of (count - (i + 1)) name (drop (suc (length name)) bytes))) (next_name last bytes)
    (rw (left-next count i less) at there)

-- Nothing more was decoded.
pub option_map-end : {A : Type 0} (xs : List A) (test : Bool) (o : Option (List A)) → is_some o ≡ true
    → o ≡ (if test then Some [] else None) → option_map (λ ys. xs ++ ys) o ≡ Some xs
option_map-end xs true o there is = ap (option_map (λ ys. xs ++ ys)) is ∙ ap Some (append-nil xs)
option_map-end xs false o there is = absurd (false≢true (ap is_some (sym is) ∙ there))
