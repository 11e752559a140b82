-- Facts about a result that is a value, one that is an error, and both.
use Rattle.std.specs.Prelude.{Result, Ok, Err, OnOk, OnErr, IfErr, IsErrAnd}
use Rattle.std.proofs.Common.{◌≡◌, ◌∙◌, sym, subst, Option, Some, ap}

-- the consequence of a clause about a value
pub on-ok : {X E : Type 0} (r : Result X E) (P Q : Type 0) → (P → Q) → OnOk r P → OnOk r Q
on-ok (Ok x) P Q f h = f h
on-ok (Err e) P Q f h = h

-- a fact that holds also holds if the result is an error
pub on-err : {X E : Type 0} (r : Result X E) (P : Type 0) → P → OnErr r P
on-err (Ok x) P h = tt
on-err (Err e) P h = h

pub ok_to : {T E X : Type 0} (r : Result T E) (a b d : X) → b ≡ d → OnOk r (a ≡ b) → OnOk r (a ≡ d)
ok_to (Ok x) a b d e h = h ∙ e
ok_to (Err x) a b d e h = tt

pub ok_always : {T E P : Type 0} (r : Result T E) → P → OnOk r P
ok_always (Ok x) p = p
ok_always (Err x) p = tt

-- a fact about both outcomes holds of the new value
pub ok_or_err : {T E X : Type 0} (P : X → Type 0) (r : Result T E) (a b d : X) → OnOk r (a ≡ b) → OnErr r (a ≡ d) → P b → P d → P a
ok_or_err P (Ok x) a b d h k p q = subst P (sym h) p
ok_or_err P (Err x) a b d h k p q = subst P (sym k) q

-- a fact that holds whatever the outcome
pub either : {X E : Type 0} (r : Result X E) (P : Type 0) → OnOk r P → OnErr r P → P
either (Ok x) P a b = a
either (Err e) P a b = b

pub if-err : {X E : Type 0} (r : Result X E) (P : Type 0) (o : Option E) (e : E) → (P → o ≡ Some e) → IfErr r (λ _. P)
    → IfErr r (λ f. f ≡ e) → IfErr r (λ f. o ≡ Some f)
if-err (Ok x) P o e f h k = h
if-err (Err f') P o e f h k = f h ∙ ap (λ x. Some x) (sym k)

-- a fact about an error holds of the result that it is
pub value_at_err : {T E : Type 0} (r : Result T E) (f : E) (P : E → Type 0) → IsErrAnd r (λ (e : E). e ≡ f) → P f → IfErr r P
value_at_err (Ok x) f P is p = tt
value_at_err (Err e) f P is p = subst P (sym is) p
