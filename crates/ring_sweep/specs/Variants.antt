-- The steps of a script and its events; its variants, each with one injection; and the results of their runs.
-- Formats: The command line; Pump
use Rattle.std.specs.Prelude.{◌≡◌, ℕ, zero, suc, ◌+◌, ◌*◌, ◌/◌, ◌%◌, ◌==◌, ◌<◌, ◌≤◌, ◌↔◌, IsTrue, Bool, true, false, if◌then◌else◌}
use Rattle.std.specs.Prelude.{List, [], ◌∷◌, ◌++◌, flat_map, replicate, Option, Some, None}
use Rattle.ring_base.specs.Group.{Group}
use Rattle.ring_object.specs.Operations.{Sequential}
use Rattle.ring_script.specs.Cuts.{isolation}
use Rattle.ring_script.specs.declared.line.ScriptLine.{ScriptLine}
use Rattle.ring_script.specs.declared.line.ScriptLine.TheVariants.{Call, Deliver, Timeout, Noise, Stop, Cut, Heal, Pump, Show}
use Rattle.ring_script.specs.declared.scripts.NumberedLine.{NumberedLine}
use Rattle.ring_console.specs.Running.{OpenCopy}
use Rattle.ring_console.specs.Running.{RunView, run_opening, is_connected, IsLineDone}
use Rattle.ring_sweep.specs.declared.injection.InjectionKind.{InjectionKind}
use Rattle.ring_sweep.specs.declared.injection.InjectionKind.TheVariants as injections
use Rattle.ring_sweep.specs.declared.injection.Injection.{Injection}
use Rattle.ring_sweep.specs.Legal.{IsLegal}

-- ---- steps and events.

-- One turn of a pump.
abbrev pub turn : {A : Type 0} → ScriptLine A
turn = Pump 1

-- The steps of a line: those of a pump are its turns.
abbrev pub steps_in : {A : Type 0} → ScriptLine A → List (ScriptLine A)
steps_in (Call node call) = Call node call ∷ []
steps_in (Deliver node frame) = Deliver node frame ∷ []
steps_in (Timeout node kind) = Timeout node kind ∷ []
steps_in (Noise node bytes) = Noise node bytes ∷ []
steps_in (Stop node) = Stop node ∷ []
steps_in (Cut groups) = Cut groups ∷ []
steps_in Heal = Heal ∷ []
steps_in (Pump turns) = replicate turns turn
steps_in Show = Show ∷ []

-- The steps of all lines.
abbrev pub steps_of : {A : Type 0} → List (NumberedLine A) → List (ScriptLine A)
steps_of lines = flat_map (λ (l : NumberedLine _). steps_in l.line) lines

-- Whether the first open copy is delivered to its receiver.
abbrev pub is_first_heard : Option (List ℕ) → List OpenCopy → Bool
is_first_heard groups [] = false
is_first_heard groups (pair ∷ others) = is_connected groups pair.sender pair.receiver

-- Whether a step is an event of the script: a turn is one if it delivers a copy.
abbrev pub is_event : {A : Type 0} → RunView A → ScriptLine A → Bool
is_event run (Call node call) = true
is_event run (Deliver node frame) = true
is_event run (Timeout node kind) = true
is_event run (Noise node bytes) = true
is_event run (Stop node) = true
is_event run (Cut groups) = false
is_event run Heal = false
is_event run (Pump turns) = is_first_heard run.groups run.open_copies
is_event run Show = false

-- The number of events of a step: 1 or 0.
abbrev pub bit : Bool → ℕ
bit true = 1
bit false = 0

-- ---- injections.

-- The script line for this kind of injection and this node.
abbrev pub line_of_injection_kind : {A : Type 0} → InjectionKind → ℕ → ScriptLine A
line_of_injection_kind injections.Stop node = Stop node
line_of_injection_kind injections.Cut node = Cut (isolation node)

-- The script line for an injection.
abbrev pub line_of_injection : {A : Type 0} → Injection → ScriptLine A
line_of_injection u = line_of_injection_kind u.injection_kind u.node

-- The injection of each variant of a script with `count` nodes, by index: before each event in turn, each node is first
-- stopped, and then cut off.
abbrev pub injection_at : ℕ → ℕ → Injection
injection_at count place = record {
  before = place / (2 * count);
  node = place % (2 * count) / 2 + 1;
  injection_kind = if place % 2 == 0 then injections.Stop else injections.Cut;
}

-- The first variant that is not legal, of those before this one and this one.
abbrev pub first_illegal : Option Injection → Bool → Injection → Option Injection
first_illegal (Some before) is_legal u = Some before
first_illegal None true u = None
first_illegal None false u = Some u

module _ {O : Type 0} (object : Sequential O) where
  -- The steps are done one after another; `before` events were run before them, and `behind` events with them.
  abbrev pub AreStepsDone : {A : Type 0} → List (ScriptLine A) → ℕ → ℕ → RunView A → RunView A → Type 0
  AreStepsDone [] before behind old new = (new ≡ old) × (behind ≡ before)
  AreStepsDone {A} (l ∷ ls) before behind old new = (mid : RunView A) × (IsLineDone object l old mid × AreStepsDone ls (before + bit (is_event old l)) behind mid new)

  -- The script has this number of events: a run of its lines from the opening has them.
  abbrev pub HasEvents : {A : Type 0} → Group → List (NumberedLine A) → ℕ → Type 0
  HasEvents {A} group lines events = (ran : RunView A) × AreStepsDone (steps_of lines) 0 events (run_opening group) ran

  -- The next step is the event before which the injection comes; or there is no further step, and the script has no
  -- more events than that.
  abbrev pub IsDue : {A : Type 0} → List (ScriptLine A) → ℕ → ℕ → RunView A → Type 0
  IsDue [] done before run = done ≤ before
  IsDue (l ∷ ls) done before run = (done ≡ before) × (is_event run l ≡ true)

  -- The steps are done with the injection among them, put in where it is due; `done` events were run before them.
  pub record IsVariant {A : Type 0} (steps : List (ScriptLine A)) (u : Injection) (done : ℕ) (old new : RunView A) : Type 0 where
    -- The steps before the injection, and those after it.
    pub first : List (ScriptLine A)
    pub others : List (ScriptLine A)
    pub whole : steps ≡ first ++ others
    -- The number of events run before the injection, and the run then.
    pub events : ℕ
    pub reached : RunView A
    pub before : AreStepsDone first done events old reached
    pub due : IsDue others events u.before reached
    -- The run after the injection, and the number of events at the end.
    pub injected : RunView A
    pub injects : IsLineDone object (line_of_injection u) reached injected
    pub ended : ℕ
    pub behind : AreStepsDone others events ended injected new

  -- The variant was run, and is legal exactly if this says so.
  abbrev pub IsTried : {A : Type 0} → Group → List (NumberedLine A) → Injection → Bool → Type 0
  IsTried {A} group lines u is_legal =
      (ran : RunView A) × (IsVariant (steps_of lines) u 0 (run_opening group) ran × (IsTrue is_legal ↔ IsLegal object ran.world_view))

  -- The first `n` variants were run, and this is the first that is not legal; None if all are legal.
  abbrev pub AreTried : {A : Type 0} → Group → List (NumberedLine A) → ℕ → Option Injection → Type 0
  AreTried group lines zero illegal = illegal ≡ None
  AreTried group lines (suc n) illegal =
      (others : Option Injection) × (last : Bool) × (AreTried group lines n others × IsTried group lines (injection_at group.count n) last
      × (illegal ≡ first_illegal others last (injection_at group.count n)))

  -- `n` variants from this one on were run, and this is the first that is not legal; None if all are legal.
  abbrev pub AreTriedFrom : {A : Type 0} → Group → List (NumberedLine A) → ℕ → ℕ → Option Injection → Type 0
  AreTriedFrom group lines from zero illegal = illegal ≡ None
  AreTriedFrom group lines from (suc n) illegal =
      (others : Option Injection) × (last : Bool) × (AreTriedFrom group lines from n others × IsTried group lines (injection_at group.count (from + n)) last
      × (illegal ≡ first_illegal others last (injection_at group.count (from + n))))

  -- The same for the variants from one up to, but not including, another.
  abbrev pub AreTriedIn : {A : Type 0} → Group → List (NumberedLine A) → ℕ → ℕ → Option Injection → Type 0
  AreTriedIn group lines from upto illegal = (n : ℕ) × (upto ≡ from + n) × AreTriedFrom group lines from n illegal

  -- The injection of one of the first `n` variants: that variant is not legal, and each one before it is.
  pub record IsFirstIllegal {A : Type 0} (group : Group) (lines : List (NumberedLine A)) (n : ℕ) (u : Injection) : Type 0 where
    pub place : ℕ
    pub within : place < n
    pub is : injection_at group.count place ≡ u
    pub illegal : IsTried group lines u false
    pub before : (k : ℕ) → k < place → IsTried group lines (injection_at group.count k) true
