-- A running script, one step after another, and the effect of its steps.
use Rattle.std.proofs.Common.{◌≡◌, ℕ, zero, suc, ◌+◌, ◌-◌, ◌≤◌, take, slice_get, Bool, List, [], ◌∷◌, ◌++◌}
use Rattle.std.proofs.Common.{Some, Result, Ok, Err, OnOk, refl, sym, ap, subst, ◌∙◌, arith, append-nil}
use Rattle.std.proofs.lemmas.Grind.{flat_map-append, replicate_next}
use Rattle.std.proofs.lemmas.List.{replicate-append-replicate}
use Rattle.std.specs.Prelude.{replicate}
use Rattle.ring_object.specs.Operations.{Sequential}
use Rattle.ring_node_spec.specs.declared.event.Event.TheVariants as events
use Rattle.ring_script.specs.declared.line.ScriptLine.{ScriptLine}
use Rattle.ring_script.specs.declared.line.ScriptLine.TheVariants.{Call, Deliver, Timeout, Noise, Stop, Cut, Heal, Pump, Show}
use Rattle.ring_script.specs.declared.scripts.NumberedLine.{NumberedLine}
use Rattle.ring_script.specs.Fits.{IsFit}
use Rattle.ring_console.specs.Running.{OpenCopy}
use Rattle.ring_console.specs.Running.{RunView, IsLineDone, IsLineEnded, HasRunEvent}
use Rattle.ring_sweep.specs.Variants.{turn, steps_in, steps_of, is_first_heard, is_event, bit, AreStepsDone}
use Rattle.ring_base.proofs.Rows.{take-more}
use Rattle.ring_sweep.specs.Copies.{IsCopyOf}

module _ {O A : Type 0} (object : Sequential O) where
  -- ---- steps, one after another.

  pub passes_append : (xs ys : List (ScriptLine A)) (begun mid ended : ℕ) (s m t : RunView A) → AreStepsDone object xs begun mid s m
      → AreStepsDone object ys mid ended m t → AreStepsDone object (xs ++ ys) begun ended s t
  passes_append [] ys begun mid ended s m t h k =
      subst (λ (r : RunView A). AreStepsDone object ys begun ended r t) h.0 (subst (λ (n : ℕ). AreStepsDone object ys n ended m t) h.1 k)
  passes_append (x ∷ xs) ys begun mid ended s m t h k =
      (h.0, (h.1.0, passes_append xs ys (begun + bit (is_event s x)) mid ended h.0 m t h.1.1 k))

  -- One step is done, and it is counted.
  pub step_ok : {T E : Type 0} (r : Result T E) (l : ScriptLine A) (is_one : Bool) (done done' : ℕ) (s s' t : RunView A) → is_one ≡ is_event s l
      → done' ≡ done + bit is_one → s' ≡ s → OnOk r (IsLineDone object l s' t) → OnOk r (AreStepsDone object (l ∷ []) done done' s t)
  step_ok (Ok x) l is_one done done' s s' t one more same h = (
    t,
    (subst (λ (q : RunView A). IsLineDone object l q t) same h, (refl, more ∙ ap (λ (b : Bool). done + bit b) one)),
  )
  step_ok (Err x) l is_one done done' s s' t one more same h = tt

  -- A turn does nothing if no copy is open.
  idle_turns : (n done : ℕ) (s : RunView A) → s.open_copies ≡ [] → AreStepsDone object (replicate n turn) done done s s
  idle_turns zero done s none = (refl, refl)
  idle_turns (suc n) done s none =
      let unheard : bit (is_first_heard s.groups s.open_copies) ≡ 0 = ap (λ (ps : List OpenCopy). bit (is_first_heard s.groups ps)) none in
      let as_many : done ≡ done + bit (is_first_heard s.groups s.open_copies) = omega (arith, unheard) in (
        s,
        (
          record { taken = 0; most = omega arith; turn = refl; rest = λ less. none },
          subst (λ (k : ℕ). AreStepsDone object (replicate n turn) k done s s) as_many (idle_turns n done s none),
        ),
      )

  -- One more turn.
  pub turns_more : (k begun mid ended : ℕ) (s m t : RunView A) → AreStepsDone object (replicate k turn) begun mid s m
      → AreStepsDone object (turn ∷ []) mid ended m t → AreStepsDone object (replicate (k + 1) turn) begun ended s t
  turns_more k begun mid ended s m t h step =
      subst (λ (ls : List (ScriptLine A)). AreStepsDone object ls begun ended s t) (sym (replicate_next k turn))
      (passes_append (replicate k turn) (turn ∷ []) begun mid ended s m t h step)

  -- All turns; the remaining ones do nothing.
  pub turns_idle : (turns k begun ended : ℕ) (s t : RunView A) → k ≤ turns → t.open_copies ≡ []
      → AreStepsDone object (replicate k turn) begun ended s t → AreStepsDone object (replicate turns turn) begun ended s t
  turns_idle turns k begun ended s t most none h =
      let parts : replicate turns turn ≡ replicate k turn ++ replicate (turns - k) turn =
      ap (λ (n : ℕ). replicate n (turn {A = A})) (omega (arith, most)) ∙ sym (replicate-append-replicate k (turns - k) (turn {A = A})) in
      subst (λ (ls : List (ScriptLine A)). AreStepsDone object ls begun ended s t) (sym parts)
      (passes_append (replicate k turn) (replicate (turns - k) turn) begun ended ended s t t h (idle_turns (turns - k) ended t none))

  -- One more line.
  pub lines_more : (lines : List (NumberedLine A)) (k : ℕ) (l : NumberedLine A) → slice_get lines k ≡ Some l
      → steps_of (take (k + 1) lines) ≡ steps_of (take k lines) ++ steps_in l.line
  lines_more lines k l here =
      ap steps_of (take-more lines k l here)
      ∙ (flat_map-append (λ (x : NumberedLine A). steps_in x.line) (take k lines) (l ∷ [])
      ∙ ap (λ (ls : List (ScriptLine A)). steps_of (take k lines) ++ ls) (append-nil (steps_in l.line)))

  pub passes_line : (lines : List (NumberedLine A)) (k : ℕ) (l : NumberedLine A) (begun mid ended : ℕ) (s m t : RunView A) → slice_get lines k ≡ Some l
      → AreStepsDone object (steps_of (take k lines)) begun mid s m → AreStepsDone object (steps_in l.line) mid ended m t
      → AreStepsDone object (steps_of (take (k + 1) lines)) begun ended s t
  passes_line lines k l begun mid ended s m t here h more =
      subst (λ (ls : List (ScriptLine A)). AreStepsDone object ls begun ended s t) (sym (lines_more lines k l here))
      (passes_append (steps_of (take k lines)) (steps_in l.line) begun mid ended s m t h more)

  -- ---- copies of lines.

  -- The request of a copy of a line is the request of the line.
  copy_does : (l copy : ScriptLine A) (r s : RunView A) → IsCopyOf l copy → IsLineDone object copy r s → IsLineDone object l r s
  copy_does (Noise node bytes) copy r s is h =
      subst (λ (xs : List ℕ). HasRunEvent object (events.Noise node xs) r s) is.2 (subst (λ (x : ScriptLine A). IsLineDone object x r s) is.1 h)
  copy_does (Call node call) copy r s is h = subst (λ (x : ScriptLine A). IsLineDone object x r s) is h
  copy_does (Deliver node frame) copy r s is h = subst (λ (x : ScriptLine A). IsLineDone object x r s) is h
  copy_does (Timeout node kind) copy r s is h = subst (λ (x : ScriptLine A). IsLineDone object x r s) is h
  copy_does (Stop node) copy r s is h = subst (λ (x : ScriptLine A). IsLineDone object x r s) is h
  copy_does (Cut groups) copy r s is h = subst (λ (x : ScriptLine A). IsLineDone object x r s) is h
  copy_does Heal copy r s is h = subst (λ (x : ScriptLine A). IsLineDone object x r s) is h
  copy_does (Pump turns) copy r s is h = subst (λ (x : ScriptLine A). IsLineDone object x r s) is h
  copy_does Show copy r s is h = subst (λ (x : ScriptLine A). IsLineDone object x r s) is h

  -- The request of a line was carried out, by a copy of it.
  pub ends_does : {T E : Type 0} (r : Result T E) (l copy : ScriptLine A) (old new : RunView A) → IsCopyOf l copy → IsLineEnded object r copy old new
      → OnOk r (IsLineDone object l old new)
  ends_does (Ok x) l copy old new is h = copy_does l copy old new is h
  ends_does (Err x) l copy old new is h = tt

-- A copy of a line is within the same limits.
pub copy_fits : {A : Type 0} (l copy : ScriptLine A) → IsCopyOf l copy → IsFit l → IsFit copy
copy_fits (Noise node bytes) copy is fits = subst IsFit (sym is.1) tt
copy_fits (Call node call) copy is fits = subst IsFit (sym is) fits
copy_fits (Deliver node frame) copy is fits = subst IsFit (sym is) tt
copy_fits (Timeout node kind) copy is fits = subst IsFit (sym is) tt
copy_fits (Stop node) copy is fits = subst IsFit (sym is) tt
copy_fits (Cut groups) copy is fits = subst IsFit (sym is) tt
copy_fits Heal copy is fits = subst IsFit (sym is) tt
copy_fits (Pump turns) copy is fits = subst IsFit (sym is) tt
copy_fits Show copy is fits = subst IsFit (sym is) tt
