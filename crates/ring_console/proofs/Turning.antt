-- A script that runs turn by turn.
use Rattle.std.proofs.Common.{◌≡◌, ℕ, zero, suc, ◌<◌, ◌≤◌, List, [], ◌∷◌, slice_get, Some, None}
use Rattle.std.proofs.Common.{refl, sym, ap, subst, ◌∙◌, arith}
use Rattle.ring_object.specs.Operations.{Sequential}
use Rattle.ring_console.specs.Running.{OpenCopy, RunView, IsTurnDone, AreTurnsDone, IsPumpDone}

-- A list with a first element is not empty.
never_empty : (open_copies : List OpenCopy) (pair : OpenCopy) → open_copies ≡ [] → slice_get open_copies 0 ≡ Some pair → ⊥
never_empty [] pair none first = cc
never_empty (p ∷ ps) pair none first = cc

-- No copy is open if there is no first one.
pub none_open : (open_copies : List OpenCopy) → slice_get open_copies 0 ≡ None → open_copies ≡ []
none_open [] none = refl
none_open (p ∷ ps) none = absurd (cc none)

module _ {O A : Type 0} (object : Sequential O) where
  taken_once : (n : ℕ) (old new : RunView A) (pair : OpenCopy) → n ≤ 1 → AreTurnsDone object n old new → (n < 1 → new.open_copies ≡ [])
      → slice_get old.open_copies 0 ≡ Some pair → IsTurnDone object old new
  taken_once zero old new pair most same rest first =
      absurd (never_empty old.open_copies pair (ap (λ (r : RunView A). r.open_copies) (sym same) ∙ rest (omega arith)) first)
  taken_once (suc zero) old new pair most turn rest first = subst (λ (r : RunView A). IsTurnDone object r new) turn.1.0 turn.1.1
  taken_once (suc (suc n)) old new pair most turn rest first = absurd (omega (arith, most))

  -- A pump of one turn takes it, if a copy is open.
  pub one_turn : (old new : RunView A) (pair : OpenCopy) → IsPumpDone object 1 old new → slice_get old.open_copies 0 ≡ Some pair → IsTurnDone object old new
  one_turn old new pair pumps first = taken_once pumps.taken old new pair pumps.most pumps.turn pumps.rest first
