-- A node as an abstract machine: all that the book needs to know of a node.
-- Rules: The book and the threads 11, 13 and 18
use Rattle.std.specs.Prelude.{ℕ, ◌≤◌, Bool, List, length, Option}
use Rattle.std.specs.List.{AllByRecursion}
use Rattle.ring_base.specs.Group.{Group}
use Rattle.ring_base.specs.declared.fault.Fault.{Fault}
use Rattle.ring_object.specs.Operations.{Sequential}
use Rattle.ring_payload.specs.Calls.{CallFits}
use Rattle.ring_payload.specs.declared.call.Call.{Call}
use Rattle.ring_core_spec.specs.State.{OutgoingFrame}
use Rattle.ring_order_proof.specs.Limits.{SentFits}
use Rattle.ring_session.specs.declared.ticket_answer.TicketAnswer.{TicketAnswer}
use Rattle.ring_node_spec.specs.declared.input.Input.{Input}
use Rattle.ring_node_spec.specs.NodeLimits.{InputFits}
use Rattle.ring_node_spec.specs.Nodes.{Node, node_opening, node_known_log, is_stopped}
use Rattle.ring_node_spec.specs.Stepping.{node_step, submit_fault, node_after_submit}

-- the outcome of a step: the next state, the frames sent, the answers given, and the calls newly committed
pub record MachineStep (S A : Type 0) : Type 0 where
  pub new : S
  pub frames : List (OutgoingFrame A)
  pub answers : List (TicketAnswer A)
  pub calls : List (Call A)

-- a node with states in S
pub record Machine (S A : Type 0) : Type 0 where
  -- the opening state, by processor
  pub opening : ℕ → S
  pub is_stopped : S → Bool
  -- one step, of a node that has not stopped
  pub step : S → Input A → MachineStep S A
  -- the refusal of a submit, other than Memory
  pub refusal : S → Option Fault
  -- the state after a submit
  pub submitted : S → Call A → S
  -- the number of tickets given
  pub tickets : S → ℕ
  -- the committed length
  pub committed : S → ℕ

-- a node of this group
abbrev pub node_machine : {O A : Type 0} → Sequential O → Group → Machine (Node A) A
node_machine object group = record {
  opening = node_opening group;
  is_stopped = λ n. is_stopped n.core.state;
  step = λ n input. (let did = node_step object n input in record { new = did.node; frames = did.sends; answers = did.answers; calls = did.committed });
  refusal = submit_fault;
  submitted = node_after_submit;
  tickets = λ n. length n.tickets;
  committed = λ n. (node_known_log n).committed;
}

-- an invariant of the machine's runs whose inputs are within the limits of frames; it implies that the frames sent are too
pub record Keeps {S A : Type 0} (m : Machine S A) (count : ℕ) (IsSound : S → Type 0) : Type 0 where
  pub opens : (i : ℕ) → 1 ≤ i → i ≤ count → IsSound (m.opening i)
  pub steps : (s : S) (input : Input A) → InputFits input → IsSound s → IsSound (m.step s input).new
  pub submits : (s : S) (c : Call A) → CallFits c → IsSound s → IsSound (m.submitted s c)
  pub frames : (s : S) (input : Input A) → InputFits input → IsSound s → AllByRecursion SentFits (m.step s input).frames
