-- Worlds of nodes: the nodes, all frames ever sent, the history and the reports; how an event changes a world; and its order.
-- Rules: The book and the threads 1 to 6; Sessions 9 and 10
use Rattle.std.specs.Prelude.{ℕ, ◌-◌, Bool, true, false, ◌&&◌, ◌==◌, nat_le, if◌then◌else◌, List, [], ◌∷◌, ◌++◌, length, map, drop, Option, Some, None}
use Rattle.ring_base.specs.Fault.{fault_number}
use Rattle.ring_base.specs.Group.{Group}
use Rattle.ring_base.specs.Numbers.{numbers_from}
use Rattle.ring_base.specs.Processors.{has}
use Rattle.ring_base.specs.declared.fault.Fault.{Fault}
use Rattle.ring_session.specs.Objects.{Sequential}
use Rattle.ring_core_spec.specs.Payloads.{Call}
use Rattle.ring_session.specs.SessionAnswer.{reply_of_answer}
use Rattle.ring_core_spec.specs.Frames.{Frame}
use Rattle.ring_core_spec.specs.State.{OutgoingFrame, Transmission, frame_at}
use Rattle.ring_node_spec.specs.Stepping.{TicketAnswer}
use Rattle.ring_node_spec.specs.declared.input.Input.{Input}
use Rattle.ring_node_spec.specs.declared.input.Input.TheVariants.{Frame as FrameInput, Timeout as TimeInput}
use Rattle.ring_log.specs.Epochs.{Epoch, number_above_rings}
use Rattle.ring_log.specs.EpochHistories.{committed_of, whole_epochs}
use Rattle.ring_node_spec.specs.Nodes.{Node, node_opening, node_stopped, node_known_log}
use Rattle.ring_node_spec.specs.Stepping.{NodeStepResult, node_step, submit_fault, node_after_submit}
use Rattle.ring_node_spec.specs.declared.event.Event.{Event}
use Rattle.ring_node_spec.specs.declared.event.Event.TheVariants.{Issue, Deliver, Noise, Timeout, Stop}
use Rattle.ring_node_spec.specs.declared.item.Item.{Item}
use Rattle.ring_node_spec.specs.declared.item.Item.TheVariants.{Issue as IssuedItem, Reply as ReplyItem}
use Rattle.ring_node_spec.specs.declared.client_report.Told.{Told}
use Rattle.ring_node_spec.specs.declared.client_report.Told.TheVariants.{Answer as ToldAnswer, Refused as ToldRefused}
use Rattle.ring_node_spec.specs.Orders.{Moment, order_of}

-- a world: a group's nodes, by processor; all frames ever sent; and all that was issued, replied and reported
pub record World (A : Type 0) : Type 0 where
  pub group : Group
  pub nodes : ℕ → Node A
  -- all frames ever sent, in order: the first is frame 1
  pub frames : List (Transmission A)
  pub history : List (Item A)
  pub told : List (Told A)
  -- the longest of the nodes' committed logs, from the log's beginning, as their steps gave it
  pub longest : List (Call A)

-- the world with each node at its opening, and nothing sent, issued or reported
abbrev pub world_opening : {A : Type 0} → Group → World A
world_opening group = record { group = group; nodes = node_opening group; frames = []; history = []; told = []; longest = [] }

-- the nodes with node i replaced
abbrev pub with_node : {A : Type 0} → (ℕ → Node A) → ℕ → Node A → ℕ → Node A
with_node nodes i n j = if j == i then n else nodes j

-- the processor is one of the group
abbrev pub is_node : {A : Type 0} → World A → ℕ → Bool
is_node w i = nat_le 1 i && nat_le i w.group.count

-- Steps

-- the frames that node i sent, with their sender
abbrev pub carried_frames : {A : Type 0} → ℕ → List (OutgoingFrame A) → List (Transmission A)
carried_frames i sends = map (λ (s : OutgoingFrame _). record { from = i; to = s.to; frame = s.frame }) sends

-- the reply that an answer adds to the history; none if the answer is a refusal
abbrev pub reply_items : {A : Type 0} → Call A → Option (List ℕ) → List (Item A)
reply_items c None = []
reply_items c (Some r) = ReplyItem c r ∷ []

-- the replies that answers add to the history, in their order
abbrev pub reply_items_of : {A : Type 0} → List (TicketAnswer A) → List (Item A)
reply_items_of [] = []
reply_items_of (a ∷ rest) = reply_items a.call (reply_of_answer a.answer) ++ reply_items_of rest

-- the reports of the answers that node i gave
abbrev pub reports_of_answers : {A : Type 0} → ℕ → List (TicketAnswer A) → List (Told A)
reports_of_answers i answers = map (λ (a : TicketAnswer _). ToldAnswer i a.call a.answer) answers

-- of the calls at the end of a log that then has `all` places, those after the log's first `many` places
abbrev pub calls_past : {A : Type 0} → ℕ → ℕ → List (Call A) → List (Call A)
calls_past many all calls = drop (length calls - (all - many)) calls

-- a world after a step of node i
abbrev pub after_step : {A : Type 0} → World A → ℕ → NodeStepResult A → World A
after_step w i s =
    record w {
      nodes = with_node w.nodes i s.node;
      frames = w.frames ++ carried_frames i s.sends;
      history = w.history ++ reply_items_of s.answers;
      told = w.told ++ reports_of_answers i s.answers;
      longest = w.longest ++ calls_past (length w.longest) (node_known_log s.node).committed s.committed;
    }

-- a world after a submit: it is refused, or a ticket is given
abbrev pub world_after_submit : {A : Type 0} → Option Fault → World A → ℕ → Call A → World A
world_after_submit (Some fault) w i c = record w { told = w.told ++ ToldRefused i c (fault_number fault) ∷ [] }
world_after_submit None w i c = record w { nodes = with_node w.nodes i (node_after_submit (w.nodes i) c); history = w.history ++ IssuedItem c ∷ [] }

-- a world after a submit, if the node exists
abbrev pub world_after_submit_if_member : {A : Type 0} → Bool → World A → ℕ → Call A → World A
world_after_submit_if_member false w i c = w
world_after_submit_if_member true w i c = world_after_submit (submit_fault (w.nodes i)) w i c

-- a world after a stop, if the node exists
abbrev pub world_after_stop_if_member : {A : Type 0} → Bool → World A → ℕ → World A
world_after_stop_if_member false w i = w
world_after_stop_if_member true w i = record w { nodes = with_node w.nodes i (node_stopped (w.nodes i)) }

module _ {O : Type 0} (object : Sequential O) where
  -- a world after an input, if the node exists
  abbrev pub world_after_input_if_member : {A : Type 0} → Bool → World A → ℕ → Input A → World A
  world_after_input_if_member false w i input = w
  world_after_input_if_member true w i input = after_step w i (node_step object (w.nodes i) input)

  -- a world after processor i takes an input
  abbrev pub world_after_node_step : {A : Type 0} → World A → ℕ → Input A → World A
  world_after_node_step w i input = world_after_input_if_member (is_node w i) w i input

  -- a world after processor i receives a frame, if it was sent to it
  abbrev pub world_after_receipt_if_sent : {A : Type 0} → Bool → World A → ℕ → Frame A → World A
  world_after_receipt_if_sent false w i frame = w
  world_after_receipt_if_sent true w i frame = world_after_node_step w i (FrameInput frame)

  -- a world after processor i receives this transmission; one that doesn't exist changes nothing
  abbrev pub world_after_delivery : {A : Type 0} → World A → ℕ → Option (Transmission A) → World A
  world_after_delivery w i None = w
  world_after_delivery w i (Some f) = world_after_receipt_if_sent (has f.to i) w i f.frame

  -- a world after an event; bytes that aren't a frame change nothing, and a frame's bytes aren't noise
  abbrev pub world_after_event : {A : Type 0} → World A → Event A → World A
  world_after_event w (Issue i c) = world_after_submit_if_member (is_node w i) w i c
  world_after_event w (Deliver i k) = world_after_delivery w i (frame_at w.frames k)
  world_after_event w (Noise i bytes) = w
  world_after_event w (Timeout i kind) = world_after_node_step w i (TimeInput kind)
  world_after_event w (Stop i) = world_after_stop_if_member (is_node w i) w i

  -- a world after events, in their order
  abbrev pub run : {A : Type 0} → World A → List (Event A) → World A
  run w [] = w
  run w (e ∷ es) = run (world_after_event w e) es

-- Observations of a world

-- the nodes' epochs; a processor outside the group has none
abbrev pub epochs_in : {A : Type 0} → World A → ℕ → List (Epoch A)
epochs_in w i = if is_node w i then (w.nodes i).epochs else []

-- the epochs filled with the places that their snapshots replace
abbrev pub whole_epochs_in : {A : Type 0} → World A → ℕ → List (Epoch A)
whole_epochs_in w i = whole_epochs w.group (epochs_in w) (number_above_rings (epochs_in w i)) i

-- all nodes' committed places, from the log's beginning, stopped nodes included, in the order of nodes
abbrev pub committed_in : {A : Type 0} → World A → List (List (Call A))
committed_in w = map (λ i. committed_of w.group (whole_epochs_in w i)) (numbers_from 1 w.group.count)

-- the moment of a world: these committed places, and the history
abbrev pub moment_of : {A : Type 0} → World A → Moment A
moment_of w = record { committed = committed_in w; history = w.history }

-- the order of a world: the longest of these, with only the calls that take effect
abbrev pub order : {A : Type 0} → World A → List (Call A)
order w = order_of (committed_in w)
