-- One step of a node, and a submit.
-- Rules: The replicated log 1, 8, 9, 10, 12 to 14, 18 and 20
use Rattle.std.specs.Prelude.{ℕ, ◌-◌, max, Bool, true, false, nat_le, nat_lt, ◌&&◌, if◌then◌else◌}
use Rattle.std.specs.Prelude.{List, [], ◌∷◌, ◌++◌, map, filter_map, length, drop, Option, Some, None}
use Rattle.ring_base.specs.Numbers.{max_number}
use Rattle.ring_base.specs.declared.fault.Fault.{Fault}
use Rattle.ring_base.specs.declared.fault.Fault.TheVariants.{PendingFull, Stopped as StoppedFault}
use Rattle.ring_session.specs.Objects.{Sequential}
use Rattle.ring_core_spec.specs.Payloads.{Call as OneCall, Payload, max_snapshot}
use Rattle.ring_core_spec.specs.PayloadVariants.{Call}
use Rattle.ring_core_spec.specs.declared.input.Input.TheVariants.{Frame as FrameInput, Timeout as TimeInput, Send as SendInput}
use Rattle.ring_core_spec.specs.declared.out.Out.{Out}
pub use Rattle.ring_core_spec.specs.Giving.{send_of}
use Rattle.ring_core_spec.specs.State.{Core, OutgoingFrame, StepResult}
use Rattle.ring_core_spec.specs.Stepping.{ring_step, after_inputs}
use Rattle.ring_log.specs.KnownLog.{KnownLog, known_log_of, retained_log, is_known_log_sound}
use Rattle.ring_log.specs.Logs.{committed_calls, is_due_to_trim}
use Rattle.ring_log.specs.Epochs.{Epoch, epochs_with_sends, epochs_with_trim}
use Rattle.ring_session.specs.Table.{Table}
pub use Rattle.ring_session.specs.declared.ticket_answer.TicketAnswer.{TicketAnswer}
use Rattle.ring_session.specs.Tickets.{answers_after}
use Rattle.ring_node_spec.specs.declared.input.Input.{Input}
use Rattle.ring_node_spec.specs.declared.input.Input.TheVariants.{Frame, Noise, Timeout, Stop}
use Rattle.ring_node_spec.specs.EpochHistories.{epochs_after}
use Rattle.ring_node_spec.specs.Nodes.{Node, node_known_log, node_pending, node_stopped, is_stopped, runs_adopted, is_closed}
use Rattle.ring_node_spec.specs.Nodes.{table_before, table_after_places, snapshot_at, is_restored}
use Rattle.ring_node_spec.specs.DueSends.{due_of_outputs}

-- Handing over

-- the core after payloads were handed to it
abbrev pub handed_over : {A : Type 0} → Core A → List (Payload A) → Core A
handed_over core payloads = after_inputs core (map (λ p. SendInput p) payloads)

-- the node after its core's step, with its epochs extended: the due payloads are handed over and recorded in the newest
-- epoch
abbrev pub node_after_outputs : {A : Type 0} → Node A → Core A → List (Epoch A) → List (Payload A) → Node A
node_after_outputs n core epochs due = record n { core = handed_over core due; epochs = epochs_with_sends due epochs }

-- A step

-- the result of a step: the node, the frames sent, the answers given, the calls newly committed, and the calls of the places
-- dropped
pub record NodeStepResult (A : Type 0) : Type 0 where
  pub node : Node A
  pub sends : List (OutgoingFrame A)
  pub answers : List (TicketAnswer A)
  pub committed : List (OneCall A)
  pub dropped : List (OneCall A)

-- a step without outputs
abbrev pub empty_step : {A : Type 0} → Node A → NodeStepResult A
empty_step n = record { node = n; sends = []; answers = []; committed = []; dropped = [] }

-- the node with this trimmed length
abbrev pub with_dropped : {A : Type 0} → ℕ → Node A → Node A
with_dropped places n = record n { epochs = epochs_with_trim places n.epochs }

-- the calls that a step commits: those past the places committed before or restored in it
abbrev pub newly_committed : {A : Type 0} → KnownLog A → KnownLog A → List (OneCall A)
newly_committed old new = drop (max old.committed new.trimmed - new.trimmed) (committed_calls (retained_log new))

module _ {O : Type 0} (object : Sequential O) where
  -- a step drops all committed places at its end if they are many enough, their snapshot isn't too long, and no exchange is open.
  -- In every run none is open then, since the committed length rises only in an adopted ring.
  abbrev pub drops : {A : Type 0} → Bool → KnownLog A → Bool
  drops closed k = closed && is_due_to_trim (retained_log k) && nat_le (length (snapshot_at object k k.committed)) max_snapshot

  -- the end of a step: the committed places are dropped if they are due
  abbrev pub step_after_trim : {A : Type 0} → Bool → KnownLog A → NodeStepResult A → NodeStepResult A
  step_after_trim closed k s =
      if drops closed k
      then record s { node = with_dropped k.committed s.node; dropped = committed_calls (retained_log k) }
      else s

  -- the session table before the newly committed calls: the old one, or the one restored
  abbrev pub table_since : {A : Type 0} → KnownLog A → KnownLog A → Table O
  table_since old new = if nat_lt old.trimmed new.trimmed then table_before object new else table_after_places object old old.committed

  -- a step by which the node did these calls and gave these answers
  abbrev pub answered_by : {A : Type 0} → Node A → Node A → List (Out A) → List (TicketAnswer A) → List (OneCall A) → NodeStepResult A
  answered_by old new outs answers more =
      record {
        node = record new { done = old.done ++ more; answers = old.answers ++ answers };
        sends = filter_map send_of outs;
        answers = answers;
        committed = more;
        dropped = [];
      }

  -- a step, given the calls that the node did in it
  abbrev pub did : {A : Type 0} → Node A → Node A → List (Out A) → KnownLog A → List (OneCall A) → NodeStepResult A
  did old new outs k more = answered_by old new outs (answers_after object (table_since (node_known_log old) k) old.tickets old.done more) more

  -- the step, if the known log after it is sound; otherwise the node is stopped, and the step has no outputs. The log is not
  -- sound after a base that lacks committed places, or whose snapshot can't be restored, and if it is too long.
  abbrev pub settled : {A : Type 0} → Bool → Node A → Node A → List (Out A) → KnownLog A → NodeStepResult A
  settled false old new outs k = empty_step (node_stopped old)
  settled true old new outs k = step_after_trim (is_closed old.group new.epochs) k (did old new outs k (newly_committed (node_known_log old) k))

  -- the step of a node whose core ran its step: its epochs are extended by the outputs, and the due payloads are handed
  -- over
  abbrev pub step_after_core : {A : Type 0} → Node A → Core A → List (Out A) → List (Epoch A) → NodeStepResult A
  step_after_core n core outs epochs =
      settled (is_known_log_sound n.group epochs && is_restored object (known_log_of n.group epochs)) n
      (node_after_outputs n core epochs (due_of_outputs object n core n.epochs outs)) outs (known_log_of n.group epochs)

  -- the step of a node, given its core's step
  abbrev pub after_core : {A : Type 0} → Node A → StepResult A → NodeStepResult A
  after_core n s = step_after_core n s.core s.outs (epochs_after n.epochs s.outs)

  -- the step of a node on an input: a frame and a timeout are steps of the core, noise changes nothing, and a stop is for good
  abbrev pub node_step : {A : Type 0} → Node A → Input A → NodeStepResult A
  node_step n (Frame frame) = after_core n (ring_step n.core (FrameInput frame))
  node_step n (Timeout kind) = after_core n (ring_step n.core (TimeInput kind))
  node_step n Noise = empty_step n
  node_step n Stop = empty_step (node_stopped n)

-- A submit

-- the fault of a refused submit, apart from `Memory`: the node is stopped, or 64 tickets are unanswered, or all tickets were
-- given
abbrev pub submit_fault : {A : Type 0} → Node A → Option Fault
submit_fault n =
    if is_stopped n.core.state then Some StoppedFault
    else if nat_le 64 (length (node_pending n)) then Some PendingFull
    else if nat_le max_number (length n.tickets) then Some PendingFull
    else None

-- due at a submit: the call, if an adopted ring runs; otherwise it stays pending
abbrev pub due_by_submit : {A : Type 0} → Node A → OneCall A → List (Payload A)
due_by_submit n c = if runs_adopted n then Call c ∷ [] else []

-- the node after a submit: the call has the next ticket
abbrev pub node_after_submit : {A : Type 0} → Node A → OneCall A → Node A
node_after_submit n c =
    record n {
      core = handed_over n.core (due_by_submit n c);
      epochs = epochs_with_sends (due_by_submit n c) n.epochs;
      tickets = n.tickets ++ record { call = c; since = length n.done } ∷ [];
    }
