-- Facts about the parts of a pair whose second part is the value of a result.
use Rattle.std.proofs.Common.{◌≡◌, ◌∙◌, Result, Ok, Err, subst, sym}
use Rattle.std.specs.Prelude.{IfOk, OnOk}

-- a fact about the value that was there holds of the first part
pub of_first : {R T E : Type 0} (r : Result R E) (first : R → T) (a : T) (P : T → Type 0) → IfOk r (λ pair. first pair ≡ a) → P a
    → IfOk r (λ pair. P (first pair))
of_first (Ok pair) first a P p h = subst P (sym p) h
of_first (Err e) first a P p h = tt

-- the same, if the fact is known only when the result is a value
pub of_first_beside : {R S T E F : Type 0} (r : Result R E) (second_result : Result S F) (first : R → T) (second : R → S) (a b : T)
    → IfOk r (λ pair. first pair ≡ a) → IfOk r (λ pair. second_result ≡ Ok (second pair)) → OnOk second_result (a ≡ b) → IfOk r (λ pair. first pair ≡ b)
of_first_beside (Ok pair) second_result first second a b p q h = p ∙ subst (λ o. OnOk o (a ≡ b)) q h
of_first_beside (Err e) second_result first second a b p q h = tt

-- a fact about the result's value holds of the second part
pub of_second : {R S E F : Type 0} (r : Result R E) (second_result : Result S F) (second : R → S) (P : S → Type 0)
    → IfOk r (λ pair. second_result ≡ Ok (second pair)) → IfOk second_result P → IfOk r (λ pair. P (second pair))
of_second (Ok pair) second_result second P q h = subst (λ o. IfOk o P) q h
of_second (Err e) second_result second P q h = tt
