-- The position of a run among the lines of its script, and that of an injection.
-- Formats: The command line
use Rattle.std.specs.Prelude.{◌≡◌, ℕ, zero, suc, ◌+◌, ◌-◌, ◌*◌, ◌<◌, ◌≤◌, ◌⊎◌, true, List, [], ◌∷◌, ◌++◌, Option, Some, None, take, replicate}
use Rattle.ring_base.specs.Group.{Group}
use Rattle.ring_object.specs.Operations.{Sequential}
use Rattle.ring_script.specs.declared.line.ScriptLine.{ScriptLine}
use Rattle.ring_script.specs.declared.line.ScriptLine.TheVariants.{Pump}
use Rattle.ring_script.specs.declared.scripts.NumberedLine.{NumberedLine}
use Rattle.ring_console.specs.Running.{RunView, run_opening}
use Rattle.ring_sweep.specs.declared.script_position.ScriptPosition.{ScriptPosition}
use Rattle.ring_sweep.specs.Variants.{turn, steps_in, steps_of, is_event, AreStepsDone, HasEvents, IsDue}

-- ---- turns of a line.

-- The number of turns of a line that may be done: at most those of a pump, and none of another line.
abbrev pub IsWithin : {A : Type 0} → ScriptLine A → ℕ → Type 0
IsWithin (Pump turns) taken = taken ≤ turns
IsWithin l taken = taken ≡ 0

-- The steps of a line after its first `taken` turns.
abbrev pub left_in : {A : Type 0} → ScriptLine A → ℕ → List (ScriptLine A)
left_in (Pump turns) taken = replicate (turns - taken) turn
left_in l taken = steps_in l

-- ---- positions: after `k` lines, and after `taken` turns of the next, if that is a pump.

-- The position exists: the next line has this number of turns, and at the end it is 0.
abbrev pub IsPlace : {A : Type 0} → List (NumberedLine A) → ℕ → ℕ → Type 0
IsPlace [] k taken = taken ≡ 0
IsPlace (l ∷ ls) zero taken = IsWithin l.line taken
IsPlace (l ∷ ls) (suc k) taken = IsPlace ls k taken

-- Whether a line has a step left after its first `taken` turns.
abbrev pub HasStepLeft : {A : Type 0} → ScriptLine A → ℕ → Type 0
HasStepLeft (Pump turns) taken = taken < turns
HasStepLeft l taken = taken ≡ 0

-- The next line has a step left, or all lines are done.
abbrev pub IsBeforeStep : {A : Type 0} → List (NumberedLine A) → ℕ → ℕ → Type 0
IsBeforeStep [] k taken = taken ≡ 0
IsBeforeStep (l ∷ ls) zero taken = HasStepLeft l.line taken
IsBeforeStep (l ∷ ls) (suc k) taken = IsBeforeStep ls k taken

-- The steps before a position.
abbrev pub done_of : {A : Type 0} → List (NumberedLine A) → ℕ → ℕ → List (ScriptLine A)
done_of lines k taken = steps_of (take k lines) ++ replicate taken turn

-- The steps after it.
abbrev pub left_of : {A : Type 0} → List (NumberedLine A) → ℕ → ℕ → List (ScriptLine A)
left_of [] k taken = []
left_of (l ∷ ls) zero taken = left_in l.line taken ++ steps_of ls
left_of (l ∷ ls) (suc k) taken = left_of ls k taken

-- The first of the steps is the event after `before` others.
abbrev pub IsNext : {A : Type 0} → List (ScriptLine A) → ℕ → ℕ → RunView A → Type 0
IsNext [] before events run = ⊥
IsNext (l ∷ ls) before events run = (is_event run l ≡ true) × (events ≡ before)

module _ {O : Type 0} (object : Sequential O) where
  -- The steps of a line after its first `taken` turns are done, none of them the event after `before` others; or they
  -- are done up to turn `turns`, and that event is next.
  abbrev pub IsUntil : {A : Type 0} → ScriptLine A → ℕ → ℕ → Option ℕ → ℕ → ℕ → RunView A → RunView A → Type 0
  IsUntil l taken before None done events old new = AreStepsDone object (left_in l taken) done events old new × (done ≤ before → events ≤ before)
  IsUntil l taken before (Some turns) done events old new =
      (taken ≤ turns) × IsWithin l turns × AreStepsDone object (replicate (turns - taken) turn) done events old new × IsNext (left_in l turns) before events new

  -- The same for a line that is one step.
  abbrev pub IsStepUntil : {A : Type 0} → ScriptLine A → ℕ → Option ℕ → ℕ → ℕ → RunView A → RunView A → Type 0
  IsStepUntil l before None done events old new = AreStepsDone object (l ∷ []) done events old new × (done ≤ before → events ≤ before)
  IsStepUntil l before (Some turns) done events old new = (turns ≡ 0) × (events ≡ done) × (new ≡ old) × IsNext (l ∷ []) before events new

  -- A run has reached a position among the lines from its opening, in `events` events.
  pub record HasReachedEvent {A : Type 0} (group : Group) (lines : List (NumberedLine A)) (k taken events : ℕ) (run : RunView A) : Type 0 where
    pub place : IsPlace lines k taken
    pub passes : AreStepsDone object (done_of lines k taken) 0 events (run_opening group) run

  -- The position is directly before the event after `before` others, within that event's line; or it is the end and
  -- there is no such event.
  pub record IsScriptPosition {A : Type 0} (group : Group) (lines : List (NumberedLine A)) (before : ℕ) (script_position : ScriptPosition) : Type 0 where
    pub first : List (ScriptLine A)
    pub others : List (ScriptLine A)
    pub whole : steps_of lines ≡ first ++ others
    pub place : first ≡ steps_of (take script_position.lines lines) ++ replicate script_position.turns turn
    pub step : IsBeforeStep lines script_position.lines script_position.turns
    pub reached : RunView A
    pub passes : AreStepsDone object first 0 script_position.events (run_opening group) reached
    pub due : IsDue object others script_position.events before reached

  -- The sweep of these lines has no variant of this number, counted from 1: it is 0, or exceeds two for each node
  -- before each event and at the end.
  abbrev pub HasNoVariant : {A : Type 0} → Group → List (NumberedLine A) → ℕ → Type 0
  HasNoVariant group lines place =
      (place ≡ 0) ⊎ ((events : ℕ) × (HasEvents object group lines events × (2 * (events + 1) * group.count < place)))
