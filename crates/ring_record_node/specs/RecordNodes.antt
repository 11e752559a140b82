-- The request of a record, the node after it, and the node's output.
-- Rules: Nodes that records drive 1 to 4, 7 and 8; Refusals 4 and 6
-- Formats: Records
use Rattle.std.specs.Prelude.{◌≡◌, ℕ, ◌⊎◌, true, false, List, [], ◌∷◌, ◌++◌, length, drop, Option, Some, None, Result, Ok, Err, MatchOption, OnOk}
use Rattle.std.specs.Io.KnownBytes.{Appends}
use Rattle.ring_base.specs.declared.fault.Fault.{Fault}
use Rattle.ring_base.specs.declared.fault.Fault.TheVariants.{Memory, NotMember, Stopped}
use Rattle.ring_base.specs.declared.timeout_kind.Kind.{Kind}
use Rattle.ring_object.specs.Operations.{Sequential}
use Rattle.ring_payload.specs.Calls.{call_of, IsNewCall}
use Rattle.ring_wire.specs.IsFrameEncoding.{IsFrameEncoding}
use Rattle.ring_wire.specs.declared.frame.Frame.{Frame}
use Rattle.ring_node_spec.specs.Nodes.{Node, node_stopped, is_stopped}
use Rattle.ring_node_spec.specs.Stepping.{node_step, submit_fault, node_after_submit}
use Rattle.ring_node_spec.specs.declared.input.Input.{Input}
use Rattle.ring_node_spec.specs.declared.input.Input.TheVariants as input
use Rattle.ring_node.specs.Restores.{node_restored}
use Rattle.ring_clock.specs.Clocks.{first_due_at, clock_after_timeout, clock_after_step}
use Rattle.ring_clock.specs.StepOutcomes.{outcome_of, installs}
use Rattle.ring_counts.specs.Counted.{counted_input}
use Rattle.ring_counts.specs.Counts.{counts_after_step, counts_after_refusal, counts_after_submit}
use Rattle.ring_counts.specs.declared.node_counts.NodeCounts.{NodeCounts}
use Rattle.ring_records.specs.RecordRequests.{IsRequest}
use Rattle.ring_records.specs.NodeRecords.{ticket_record, refusal_record}
use Rattle.ring_records.specs.declared.record_requests.RecordRequest.{RecordRequest}
use Rattle.ring_records.specs.declared.record_requests.RecordRequest.TheVariants as asked
use Rattle.ring_records.specs.declared.token_outcome.TokenOutcome.TheVariants.{NoToken}
use Rattle.ring_record_node.specs.NodeOutputs.{RecordNodeView, outs_text, token_fate, has_brought, end_text, installed_text, status_text, counts_text}

-- the input that bytes are: the frame that they encode, or noise where they encode none
abbrev pub IsDecodedInput : {A : Type 0} → List ℕ → Input A → Type 0
IsDecodedInput bytes (input.Frame frame) = IsFrameEncoding frame bytes
IsDecodedInput {A} bytes input.Noise = (frame : Frame A) → ¬ IsFrameEncoding frame bytes
IsDecodedInput bytes (input.Timeout kind) = ⊥
IsDecodedInput bytes input.Stop = ⊥

-- The counts after a call was submitted that got a ticket or was refused.
abbrev pub counts_after_submission : Result ℕ Fault → NodeCounts → NodeCounts
counts_after_submission (Ok ticket) counts = counts_after_submit counts
counts_after_submission (Err fault) counts = counts_after_refusal counts

module _ {O A : Type 0} (object : Sequential O) where
  -- a node made a step, or was refused it; where memory is refused it has stopped, before the step or after it
  abbrev pub IsStepOrRefusal : Node A → Input A → Option Fault → Node A → Type 0
  IsStepOrRefusal old i None new = (is_stopped old.core.state ≡ false) × (new ≡ (node_step object old i).node)
  IsStepOrRefusal old i (Some Stopped) new = (is_stopped old.core.state ≡ true) × (new ≡ node_stopped old)
  IsStepOrRefusal old i (Some Memory) new =
      (is_stopped old.core.state ≡ false) × ((new ≡ node_stopped old) ⊎ (new ≡ node_stopped (node_step object old i).node))
  IsStepOrRefusal old i (Some _) new = ⊥

  -- The counts after a step of the node between these two states.
  abbrev pub counts_after : NodeCounts → Node A → Input A → Node A → NodeCounts
  counts_after counts old i new =
      let s = node_step object old i in
      counts_after_step (counted_input i) s.sends (length s.answers) (installs old.core new.core) counts

  -- A node with its clock made a step, which the clock and the counts note, or was refused it, which the counts note.
  abbrev pub IsStepNoted : RecordNodeView A → Input A → Option Fault → RecordNodeView A → Type 0
  IsStepNoted old i None new =
      IsStepOrRefusal old.node i None new.node
      × (new
      ≡ record old {
        node = new.node;
        clock = clock_after_step old.clock (outcome_of i (node_step object old.node i).sends);
        counts = counts_after old.counts old.node i new.node;
      })
  IsStepNoted old i (Some fault) new = IsStepOrRefusal old.node i (Some fault) new.node × (new ≡ record old { node = new.node; counts = counts_after_refusal old.counts })

  -- the output of that, without its end: all outputs of the step and the ring that it installed, or the refusal alone
  abbrev pub step_or_refusal_text : RecordNodeView A → Input A → Option Fault → RecordNodeView A → List ℕ
  step_or_refusal_text old i None new = outs_text old.node (node_step object old.node i) ++ installed_text old new
  step_or_refusal_text old i (Some fault) new = refusal_record fault

  -- the end of it
  abbrev pub step_end_text : RecordNodeView A → Input A → Option Fault → RecordNodeView A → List ℕ
  step_end_text old i None new =
      let s = node_step object old.node i in
      end_text new (token_fate i s.sends)
      (has_brought (token_fate i s.sends) new.node s.sends s.answers (node_restored old.node s.node) s.committed (installs old.node.core new.node.core))
  step_end_text old i (Some fault) new = end_text new (token_fate i []) false

  -- a node made a step or was refused it, and this is the output
  abbrev pub Steps : RecordNodeView A → Input A → RecordNodeView A → List ℕ → Type 0
  Steps old i new text =
      (refused : Option Fault) × IsStepNoted old i refused new × (text ≡ step_or_refusal_text old i refused new ++ step_end_text old i refused new)

  -- the node stopped, or had stopped before, and this is the output: memory for the frame that arrived was refused
  abbrev pub IsStoppedForMemory : RecordNodeView A → RecordNodeView A → List ℕ → Type 0
  IsStoppedForMemory old new text =
      (fault : Fault) × IsStepNoted old input.Noise (Some fault) new
      × (text ≡ step_or_refusal_text old input.Noise (Some fault) new ++ step_end_text old input.Noise (Some fault) new)

  -- bytes arrived: a step on the input that they are, or memory for it was refused
  abbrev pub IsReceived : RecordNodeView A → List ℕ → RecordNodeView A → List ℕ → Type 0
  IsReceived old bytes new text = ((i : Input A) × IsDecodedInput bytes i × Steps old i new text) ⊎ IsStoppedForMemory old new text

  -- a node made a step on a timeout or was refused it, and this is the output without its end
  abbrev pub TimesOut : Kind → RecordNodeView A → RecordNodeView A → List ℕ → Type 0
  TimesOut kind old new text =
      (refused : Option Fault) × IsStepNoted old (input.Timeout kind) refused new × (text ≡ step_or_refusal_text old (input.Timeout kind) refused new)

  -- the timeout is the first that is due at this time; it is taken, and the node makes a step on it
  abbrev pub TimesOutAt : ℕ → Kind → RecordNodeView A → RecordNodeView A → List ℕ → Type 0
  TimesOutAt now kind old new text =
      (first_due_at old.clock now ≡ Some kind) × TimesOut kind (record old { clock = clock_after_timeout old.clock now (Some kind) }) new text

  -- these timeouts were due at this time one after another, the newest first here, and this is the output, in order
  abbrev pub HaveTimedOut : ℕ → RecordNodeView A → List Kind → RecordNodeView A → List ℕ → Type 0
  HaveTimedOut now old [] new text = (new ≡ old) × (text ≡ [])
  HaveTimedOut now old (kind ∷ before) new text =
      (mid : RecordNodeView A) × (told : List ℕ) × (more : List ℕ) × HaveTimedOut now old before mid told × TimesOutAt now kind mid new more
      × (text ≡ told ++ more)

  -- a time was brought: the timeouts that are due at it come one after another, until none is due, and then the end
  pub record IsTimeBrought (now : ℕ) (old new : RecordNodeView A) (text : List ℕ) : Type 0 where
    pub kinds : List Kind
    pub last : RecordNodeView A
    pub told : List ℕ
    pub due : HaveTimedOut now old kinds last told
    pub none : first_due_at last.clock now ≡ None
    pub after : new ≡ record last { clock = clock_after_timeout last.clock now None }
    pub all : text ≡ told ++ end_text new NoToken false

  -- a call was submitted: it got a ticket, or it is no call, which comes first, or the node refused it
  abbrev pub IsSubmission : Node A → ℕ → ℕ → List ℕ → Result ℕ Fault → Node A → Type 0
  IsSubmission old client number operation (Ok ticket) new =
      (submit_fault old ≡ None) × (ticket ≡ length old.tickets) × (new ≡ node_after_submit old (call_of client number operation))
      × IsNewCall client number operation (Ok (call_of {A = A} client number operation))
  IsSubmission old client number operation (Err fault) new =
      (new ≡ old) × (IsNewCall {A = A} client number operation (Err fault)
      ⊎ (IsNewCall client number operation (Ok (call_of {A = A} client number operation))
      × MatchOption (submit_fault old) (fault ≡ Memory) (λ first. fault ≡ first)))

  -- the output of that
  abbrev pub submission_text : Result ℕ Fault → RecordNodeView A → List ℕ
  submission_text (Ok ticket) new = ticket_record ticket ++ end_text new NoToken false
  submission_text (Err fault) new = refusal_record fault ++ end_text new NoToken false

  -- a call was submitted, and this is the output
  abbrev pub IsSubmitted : RecordNodeView A → ℕ → ℕ → List ℕ → RecordNodeView A → List ℕ → Type 0
  IsSubmitted old client number operation new text =
      (given : Result ℕ Fault) × IsSubmission old.node client number operation given new.node
      × (new ≡ record old { node = new.node; counts = counts_after_submission given old.counts })
      × (text ≡ submission_text given new)

  -- the request is carried out, with this output; a frame or an operation is in the record's bytes
  abbrev pub IsRequestDone : RecordNodeView A → List ℕ → RecordRequest → RecordNodeView A → List ℕ → Type 0
  IsRequestDone old bytes asked.Frame new text = IsReceived old bytes new text
  IsRequestDone old bytes (asked.Timeout kind) new text = Steps old (input.Timeout kind) new text
  IsRequestDone old bytes (asked.Call client number) new text = IsSubmitted old client number (drop 12 bytes) new text
  IsRequestDone old bytes asked.Stop new text = Steps old input.Stop new text
  IsRequestDone old bytes asked.Status new text = (new ≡ old) × (text ≡ status_text old ++ end_text old NoToken false)
  IsRequestDone old bytes asked.Counts new text = (new ≡ old) × (text ≡ counts_text old ++ end_text old NoToken false)
  IsRequestDone old bytes (asked.Time now) new text = IsTimeBrought now old new text

  -- a record was taken, with this output
  pub record IsRecordTaken (old : RecordNodeView A) (kind : ℕ) (bytes : List ℕ) (new : RecordNodeView A) (text : List ℕ) : Type 0 where
    pub what : RecordRequest
    pub asks : IsRequest kind bytes what
    pub does : IsRequestDone old bytes what new text

-- a record is no request
abbrev pub IsNoRequest : ℕ → List ℕ → Type 0
IsNoRequest kind bytes = (what : RecordRequest) → ¬ IsRequest kind bytes what

-- an output grew by a text with this property
pub record HasWritten (out out' : Option (List ℕ)) (Holds : List ℕ → Type 0) : Type 0 where
  pub text : List ℕ
  pub told : Appends out out' text
  pub holds : Holds text

-- a text has this property, and the output grew by it unless it failed
pub record HasWrittenUnlessFailed {T E : Type 0} (r : Result T E) (out out' : Option (List ℕ)) (Holds : List ℕ → Type 0) : Type 0 where
  pub text : List ℕ
  pub told : OnOk r (Appends out out' text)
  pub holds : Holds text

-- why a node isn't created: there is such a processor and memory is refused, or there is none
abbrev pub IsOpeningRefused : Type 0 → Fault → Type 0
IsOpeningRefused IsThere fault = ((fault ≡ Memory) × IsThere) ⊎ ((fault ≡ NotMember) × ¬ IsThere)
