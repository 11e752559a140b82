-- The effect of a script's lines on a run, and the text that they print.
-- Formats: Scripts; Pump; What a script prints
use Rattle.std.specs.Prelude.{◌≡◌, ℕ, zero, suc, ◌<◌, ◌≤◌, ◌⊎◌, Bool, true, false, List, [], ◌∷◌, ◌++◌, length, drop, ◌↔◌, IsTrue, ◌-◌, Option}
use Rattle.std.specs.Prelude.{Some, None, unwrap_or, Result, Ok, Err, ⊤, slice_index}
use Rattle.std.specs.Io.KnownBytes.{Appends}
use Rattle.ring_base.specs.Group.{Group}
use Rattle.ring_base.specs.Processors.{has}
use Rattle.ring_object.specs.Operations.{Sequential}
use Rattle.ring_world.specs.Rules.{Node, node_known_log, node_length, node_trimmed, Event, IsLinearization, World, order}
use Rattle.ring_world.specs.EventVariants as events
use Rattle.ring_script.specs.declared.line.ScriptLine.{ScriptLine}
use Rattle.ring_script.specs.declared.line.ScriptLine.TheVariants.{Call, Deliver, Timeout, Noise, Stop, Cut, Heal, Pump, Show}
use Rattle.ring_script.specs.declared.scripts.NumberedLine.{NumberedLine}
use Rattle.ring_script.specs.declared.scripts.Script.{Script}
use Rattle.ring_script.specs.Operations.{OperationForm}
use Rattle.ring_script.specs.Scripts.{IsAllOf, IsScriptOfInputBy}
use Rattle.ring_failure.specs.declared.failure.Failure.{Failure}
use Rattle.ring_failure.specs.declared.failure.Failure.TheVariants.{Output}
use Rattle.ring_failure.specs.Texts.{line_of, legal_text}
pub use Rattle.ring_world.specs.declared.open_copies.OpenCopy.{OpenCopy}
use Rattle.ring_world.specs.Pumping.{PumpView, IsUnchanged as PumpRests, HasRunEvent as PumpHappens}
use Rattle.ring_world.specs.WorldView.{WorldView, opening_world_view, world_of}
use Rattle.ring_console.specs.OutputLines.{told_text, node_text, order_text}

-- The view that contracts have of a run.
pub record RunView (A : Type 0) : Type 0 where
  -- The events of its world, and the reports of its nodes.
  pub world_view : WorldView A
  -- The open copies of frames, ordered by the frame's number, then by receiver.
  pub open_copies : List OpenCopy
  -- The groups of the cut, if there is one.
  pub groups : Option (List ℕ)

-- The run before its first line.
abbrev pub run_opening : {A : Type 0} → Group → RunView A
run_opening group = record { world_view = opening_world_view group; open_copies = []; groups = None }

-- A text with this property was appended.
pub record HasPrinted (old new : Option (List ℕ)) (Holds : List ℕ → Type 0) : Type 0 where
  pub text : List ℕ
  pub appended : Appends old new text
  pub holds : Holds text

-- The property, unless the output failed.
abbrev pub UnlessOutputFailed : {T : Type 0} → Result T Failure → Type 0 → Type 0
UnlessOutputFailed (Ok x) P = P
UnlessOutputFailed (Err Output) P = ⊤
UnlessOutputFailed (Err _) P = P

-- The line that says whether a run is legal, if it is requested.
abbrev pub legal_line : Bool → Bool → List ℕ
legal_line true is_legal = line_of (legal_text is_legal)
legal_line false is_legal = []

-- ---- the effect of one line or turn on a run.

-- Whether the receiver hears the sender: there is no cut, or they are in one group.
abbrev pub is_connected : Option (List ℕ) → ℕ → ℕ → Bool
is_connected None sender receiver = true
is_connected (Some groups) sender receiver = has (slice_index groups (sender - 1)) receiver

-- The world of a run, with the open copies.
abbrev pub pump_of : {A : Type 0} → RunView A → PumpView A
pump_of r = record { world_view = r.world_view; open_copies = r.open_copies }

-- The world did and reported nothing, and everything else is unchanged, too.
pub record IsUnchanged {A : Type 0} (old new : RunView A) : Type 0 where
  pub pump : PumpRests (pump_of old) (pump_of new)
  pub groups : new.groups ≡ old.groups

-- The event that a line requests, if it requests one; a frame whose number no u64 holds was never sent, nor was frame
-- 0.
abbrev pub event_of : {A : Type 0} → ScriptLine A → Option (Event A)
event_of (Call node call) = Some (events.Issue node call)
event_of (Deliver node frame) = Some (events.Deliver node (unwrap_or frame 0))
event_of (Timeout node kind) = Some (events.Timeout node kind)
event_of (Noise node bytes) = Some (events.Noise node bytes.items)
event_of (Stop node) = Some (events.Stop node)
event_of (Cut groups) = None
event_of Heal = None
event_of (Pump turns) = None
event_of Show = None

-- A node's line.
abbrev pub node_line_text : {A : Type 0} → ℕ → Node A → List ℕ
node_line_text number node =
    line_of (node_text number node.core.state node.core.installed.ring (node_known_log node).committed (node_length node) (node_trimmed node))

module _ {O : Type 0} (object : Sequential O) where
  -- The world runs an event, and each frame that it sends opens its copies.
  pub record HasRunEvent {A : Type 0} (e : Event A) (old new : RunView A) : Type 0 where
    pub pump : PumpHappens object e (pump_of old) (pump_of new)
    pub groups : new.groups ≡ old.groups

  -- A copy is delivered to its receiver, or is lost.
  abbrev pub IsCopyHandled : {A : Type 0} → Bool → OpenCopy → RunView A → RunView A → Type 0
  IsCopyHandled true pair old new = HasRunEvent (events.Deliver pair.receiver pair.frame) old new
  IsCopyHandled false pair old new = new ≡ old

  -- A turn closes the first open copy, and delivers it to its receiver unless the cut loses it.
  pub record IsTurnDone {A : Type 0} (old new : RunView A) : Type 0 where
    pub pair : OpenCopy
    pub others : List OpenCopy
    pub first : old.open_copies ≡ pair ∷ others
    pub comes : IsCopyHandled (is_connected old.groups pair.sender pair.receiver) pair (record old { open_copies = others }) new

  -- A turn fails: the first open copy is closed and not delivered.
  pub record IsTurnInterrupted {A : Type 0} (old new : RunView A) : Type 0 where
    pub pair : OpenCopy
    pub others : List OpenCopy
    pub first : old.open_copies ≡ pair ∷ others
    pub rests : IsUnchanged (record old { open_copies = others }) new

  -- This number of turns is taken.
  abbrev pub AreTurnsDone : {A : Type 0} → ℕ → RunView A → RunView A → Type 0
  AreTurnsDone zero old new = new ≡ old
  AreTurnsDone {A} (suc n) old new = (mid : RunView A) × (AreTurnsDone n old mid × IsTurnDone mid new)

  -- This number of turns is taken, or fewer if no copy is open then.
  pub record IsPumpDone {A : Type 0} (turns : ℕ) (old new : RunView A) : Type 0 where
    pub taken : ℕ
    pub most : taken ≤ turns
    pub turn : AreTurnsDone taken old new
    pub rest : taken < turns → new.open_copies ≡ []

  -- Some turns are taken, and the next one fails.
  pub record IsPumpInterrupted {A : Type 0} (turns : ℕ) (old new : RunView A) : Type 0 where
    pub taken : ℕ
    pub less : taken < turns
    pub mid : RunView A
    pub turn : AreTurnsDone taken old mid
    pub next : IsTurnInterrupted mid new

  -- The request of a line is carried out.
  abbrev pub IsLineDone : {A : Type 0} → ScriptLine A → RunView A → RunView A → Type 0
  IsLineDone (Call node call) old new = HasRunEvent (events.Issue node call) old new
  IsLineDone (Deliver node frame) old new = HasRunEvent (events.Deliver node (unwrap_or frame 0)) old new
  IsLineDone (Timeout node kind) old new = HasRunEvent (events.Timeout node kind) old new
  IsLineDone (Noise node bytes) old new = HasRunEvent (events.Noise node bytes.items) old new
  IsLineDone (Stop node) old new = HasRunEvent (events.Stop node) old new
  IsLineDone (Cut groups) old new = new ≡ record old { groups = Some groups }
  IsLineDone Heal old new = new ≡ record old { groups = None }
  IsLineDone (Pump turns) old new = IsPumpDone turns old new
  IsLineDone Show old new = new ≡ old

  -- The request of a line fails, since an allocation of the world failed.
  abbrev pub IsLineInterrupted : {A : Type 0} → ScriptLine A → RunView A → RunView A → Type 0
  IsLineInterrupted (Call node call) old new = IsUnchanged old new
  IsLineInterrupted (Deliver node frame) old new = IsUnchanged old new
  IsLineInterrupted (Timeout node kind) old new = IsUnchanged old new
  IsLineInterrupted (Noise node bytes) old new = IsUnchanged old new
  IsLineInterrupted (Stop node) old new = IsUnchanged old new
  IsLineInterrupted (Cut groups) old new = ⊥
  IsLineInterrupted Heal old new = ⊥
  IsLineInterrupted (Pump turns) old new = IsPumpInterrupted turns old new
  IsLineInterrupted Show old new = ⊥

  -- The request of a line is carried out, or fails.
  abbrev pub IsLineEnded : {A T E : Type 0} → Result T E → ScriptLine A → RunView A → RunView A → Type 0
  IsLineEnded (Ok x) line old new = IsLineDone line old new
  IsLineEnded (Err e) line old new = IsLineInterrupted line old new

  -- ---- the printed text.

  -- The lines of the first nodes.
  abbrev pub nodes_text : {A : Type 0} → ℕ → World A → List ℕ
  nodes_text zero w = []
  nodes_text (suc n) w = nodes_text n w ++ node_line_text (suc n) (w.nodes (suc n))

  -- The states of all nodes, and the length of the order.
  abbrev pub show_text : {A : Type 0} → WorldView A → List ℕ
  show_text p = nodes_text p.group.count (world_of object p) ++ line_of (order_text (length (order (world_of object p))))

  -- The text that a line prints: the new reports, or the state for `show`.
  abbrev pub text_of : {A : Type 0} → ScriptLine A → WorldView A → WorldView A → List ℕ
  text_of Show old new = show_text new
  text_of _ old new = told_text (drop (length old.told) new.told)

  -- The requests of the lines are carried out one after another, and print this text.
  abbrev pub AreLinesDone : {A : Type 0} → List (NumberedLine A) → RunView A → RunView A → List ℕ → Type 0
  AreLinesDone [] old new text = (new ≡ old) × (text ≡ [])
  AreLinesDone {A} (l ∷ ls) old new text = (mid : RunView A) × (others : List ℕ)
      × (IsLineDone l.line old mid × AreLinesDone ls mid new others × (text ≡ text_of l.line old.world_view mid.world_view ++ others))

  -- Some of the lines are carried out and print this text, and the next one fails.
  abbrev pub AreLinesInterrupted : {A : Type 0} → List (NumberedLine A) → RunView A → RunView A → List ℕ → Type 0
  AreLinesInterrupted [] old new text = ⊥
  AreLinesInterrupted {A} (l ∷ ls) old new text =
      (IsLineInterrupted l.line old new × (text ≡ text_of l.line old.world_view new.world_view))
      ⊎ ((mid : RunView A) × (others : List ℕ) × (IsLineDone l.line old mid × AreLinesInterrupted ls mid new others × (text ≡ text_of l.line old.world_view mid.world_view ++ others)))

  -- The lines are carried out, or one of them fails.
  abbrev pub AreLinesEnded : {A T E : Type 0} → Result T E → List (NumberedLine A) → RunView A → RunView A → List ℕ → Type 0
  AreLinesEnded (Ok x) lines old new text = AreLinesDone lines old new text
  AreLinesEnded (Err e) lines old new text = AreLinesInterrupted lines old new text

  -- The order of the run's world is legal for its history: Sessions 10.
  abbrev pub IsLegal : {A : Type 0} → WorldView A → Type 0
  IsLegal p = IsLinearization object (order (world_of object p)) (world_of object p).history

  -- The verdict on a run: exactly whether it is legal if that is checked, and true otherwise.
  abbrev pub IsVerdict : {A : Type 0} → Bool → Bool → WorldView A → Type 0
  IsVerdict true is_legal p = IsTrue is_legal ↔ IsLegal p
  IsVerdict false is_legal p = is_legal ≡ true

  -- The text is the one that a run of these lines prints from its opening, followed by the verdict if that is
  -- requested.
  pub record IsTextOf {A : Type 0} (group : Group) (is_checked : Bool) (lines : List (NumberedLine A)) (is_legal : Bool) (text : List ℕ) : Type 0 where
    pub ran : RunView A
    pub told : List ℕ
    pub runs : AreLinesDone lines (run_opening group) ran told
    pub legal : IsVerdict is_checked is_legal ran.world_view
    pub whole : text ≡ told ++ legal_line is_checked is_legal

  -- The text is the one that a run of these lines prints from its opening until an allocation fails: before the first
  -- line, in the world during one of the lines, or after them all in the check if that is requested.
  pub record IsCutTextOf {A : Type 0} (group : Group) (is_checked : Bool) (lines : List (NumberedLine A)) (text : List ℕ) : Type 0 where
    pub ran : RunView A
    pub cut : (text ≡ []) ⊎ (AreLinesInterrupted lines (run_opening group) ran text
        ⊎ ((is_checked ≡ true) × AreLinesDone lines (run_opening group) ran text))

  -- The whole input was a script in a vocabulary with these forms, and the text of a run of it was printed that breaks
  -- off where an allocation fails.
  pub record IsBrokenOff (A : Type 0) (forms : List OperationForm) (is_checked : Bool) (input old new : Option (List ℕ)) : Type 0 where
    pub script : Script A
    pub bytes : List ℕ
    pub all : IsAllOf input bytes
    pub is_script : IsScriptOfInputBy forms (Ok script) bytes
    pub printed : HasPrinted old new (IsCutTextOf script.nodes is_checked script.lines.items)
