-- A number past that of the last variant has no variant.
use Rattle.std.proofs.Common.{◌≡◌, ℕ, ◌+◌, ◌-◌, ◌*◌, ◌/◌, ◌<◌, ◌≤◌, ◌⊎◌, inl, inr, List, [], ◌∷◌, ◌++◌, sym, ap, subst, ◌∙◌, arith, append-nil, le-div_iff_mul-le, mul-pos}
use Rattle.std.proofs.Math.Nat.{mul_assoc, mul_comm}
use Rattle.ring_base.specs.Group.{Group}
use Rattle.ring_object.specs.Operations.{Sequential}
use Rattle.ring_script.specs.declared.line.ScriptLine.{ScriptLine}
use Rattle.ring_script.specs.declared.scripts.NumberedLine.{NumberedLine}
use Rattle.ring_console.specs.Running.{RunView, run_opening}
use Rattle.ring_sweep.specs.declared.script_position.ScriptPosition.{ScriptPosition}
use Rattle.ring_sweep.specs.ScriptPositions.{IsScriptPosition, HasNoVariant}
use Rattle.ring_sweep.specs.Variants.{steps_of, AreStepsDone, HasEvents, IsDue}

-- The variants before this event and those before it are this many.
past_all : (place count before events : ℕ) → before ≡ (place - 1) / (2 * count) → 1 ≤ count → events < before → 2 * (events + 1) * count < place
past_all place count before events is some less =
    let at : events + 1 ≤ (place - 1) / (2 * count) = omega (arith, is, less) in
    let each : 0 < 2 * count = omega (arith, some) in
    let room : (events + 1) * (2 * count) ≤ place - 1 = (le-div_iff_mul-le {k = 2 * count} {x = events + 1} {y = place - 1} each).0 at in
    let same : (events + 1) * (2 * count) ≡ 2 * (events + 1) * count =
    sym (mul_assoc (events + 1) 2 count) ∙ ap (λ (n : ℕ). n * count) (mul_comm (events + 1) 2) in
    let least : 1 ≤ (events + 1) * (2 * count) = mul-pos (omega arith) each in
    omega (arith, room, same, least)

module _ {O A : Type 0} (object : Sequential O) (group : Group) (lines : List (NumberedLine A)) where
  -- If there is no such event, all steps come before the place.
  all_before : (first others : List (ScriptLine A)) (reached : RunView A) (events before : ℕ) → steps_of lines ≡ first ++ others
      → AreStepsDone object first 0 events (run_opening group) reached → IsDue object others events before reached → events < before
      → HasEvents object group lines events
  all_before first [] reached events before whole passes due less =
      (reached, subst (λ (steps : List (ScriptLine A)). AreStepsDone object steps 0 events (run_opening group) reached) (sym (whole ∙ append-nil first)) passes)
  all_before first (l ∷ ls) reached events before whole passes due less = absurd (let same = due.0 in omega (arith, same, less))

  pub no_variant : (place before : ℕ) (position : ScriptPosition) → IsScriptPosition object group lines before position → 1 ≤ group.count
      → before ≡ (place - 1) / (2 * group.count) → (place ≡ 0) ⊎ (position.events < before) → HasNoVariant object group lines place
  no_variant place before position at some is (inl zero_is) = inl zero_is
  no_variant place before position at some is (inr less) =
      inr (
        position.events,
        (
          all_before at.first at.others at.reached position.events before at.whole at.passes at.due less,
          past_all place group.count before position.events is some less,
        ),
      )
