-- Tests over lists decide facts about their items.
use Rattle.std.proofs.Common.{◌≡◌, ℕ, zero, suc, ◌+◌, ◌<◌, ◌≤◌, inl, inr, Bool, true, false, ◌&&◌, List, [], ◌∷◌, refl, sym, subst, arith}
use Rattle.std.specs.Prelude.{if◌then◌else◌, nat_le}
use Rattle.std.specs.Bool.{Decides}
use Rattle.std.specs.List.{list_all, list_any, AllByRecursion}
use Rattle.std.proofs.lemmas.Bool.{false≢true, leb-true, le-leb, and_parts}
use Rattle.std.proofs.lemmas.Bool.Decides.{Decides-and, Decides-or, Decides-like}
use Rattle.ring_base.specs.Numbers.{numbers_from}
use Rattle.ring_core_proof.proofs.InLists.{in-numbers}
use Rattle.ring_core_proof.specs.FactWords.{IsIn}

pub all_decides : {X : Type 0} (p : X → Bool) (P : X → Type 0) → ((x : X) → Decides (p x) (P x)) → (xs : List X) →
    Decides (list_all p xs) ((x : X) → IsIn x xs → P x)
all_decides p P d [] = (λ h x i. absurd i, λ f. refl)
all_decides {X} p P d (x ∷ xs) =
    Decides-like (p x && list_all p xs) there (λ f. (f x (inl refl), λ y k. f y (inr k))) (Decides-and (p x) (list_all p xs) (d x) (all_decides p P d xs))
  where
    there : P x × ((y : X) → IsIn y xs → P y) → (y : X) → IsIn y (x ∷ xs) → P y
    there h y (inl e) = subst P (sym e) h.0
    there h y (inr k) = h.1 y k

pub each_decides : {X : Type 0} (p : X → Bool) (P : X → Type 0) → ((x : X) → Decides (p x) (P x)) → (xs : List X)
    → Decides (list_all p xs) (AllByRecursion P xs)
each_decides p P d [] = (λ h. tt, λ f. refl)
each_decides p P d (x ∷ xs) = Decides-like (p x && list_all p xs) (λ h. h) (λ h. h) (Decides-and (p x) (list_all p xs) (d x) (each_decides p P d xs))

pub in_decides : {X : Type 0} (same : X → X → Bool) → ((a b : X) → Decides (same a b) (a ≡ b)) → (x : X) (ys : List X)
    → Decides (list_any (same x) ys) (IsIn x ys)
in_decides same d x [] = (λ h. absurd (false≢true h), λ i. absurd i)
in_decides same d x (y ∷ ys) = Decides-or (same x y) (list_any (same x) ys) (d x y) (in_decides same d x ys)

pub when_decides : (b t : Bool) {P Q : Type 0} → Decides b P → Decides t Q → Decides (if b then t else true) (P → Q)
when_decides true t d e = (λ h p. e.0 h, λ f. e.1 (f (d.0 refl)))
when_decides false t d e = (λ h p. absurd (false≢true (d.1 p)), λ f. refl)

-- Consecutive numbers

pub numbers_in : (i first count : ℕ) → IsIn i (numbers_from first count) → (first ≤ i) × (i < first + count)
numbers_in i first zero h = absurd h
numbers_in i first (suc count) (inl e) = (omega (arith, e), omega (arith, e))
numbers_in i first (suc count) (inr h) =
    (let r = numbers_in i (suc first) count h in let a : suc first ≤ i = r.0 in let b : i < suc first
    + count = r.1 in (omega (arith, a), omega (arith, b)))

pub nodes_decide : (n : ℕ) (p : ℕ → Bool) (P : ℕ → Type 0) → ((i : ℕ) → Decides (p i) (P i)) →
    Decides (list_all p (numbers_from 1 n)) ((i : ℕ) → (nat_le 1 i && nat_le i n) ≡ true → P i)
nodes_decide n p P d =
    Decides-like (list_all p (numbers_from 1 n))
    (λ h i k. (let b = and_parts (nat_le 1 i) (nat_le i n) k in h i (in-numbers 1 n i (leb-true 1 i b.0) (omega (arith, leb-true i n b.1)))))
    (λ f i k. (let r = numbers_in i 1 n k in let a : 1 ≤ i = r.0 in let b : i ≤ n = omega (arith, r.1) in f i (rw (le-leb 1 i a, le-leb i n b) refl)))
    (all_decides p P d (numbers_from 1 n))
