-- The book's lines as the events of a run of a world.
-- Rules: The book and the threads 2 to 4, 9 to 11; Sessions 9
use Rattle.std.specs.Prelude.{ℕ, suc, ◌≡◌, ◌+◌, ◌≤◌, true, false, List, [], ◌∷◌, ◌++◌, length, take, Option, None, IsSomeAnd}
use Rattle.std.specs.List.{AllByRecursion}
use Rattle.ring_base.specs.Group.{Group}
use Rattle.ring_base.specs.Processors.{has}
use Rattle.ring_object.specs.Operations.{Sequential}
use Rattle.ring_session.specs.declared.answer.Answer.{Answer}
use Rattle.ring_session.specs.Deduplicated.{deduplicated}
use Rattle.ring_core_spec.specs.State.{Transmission, frame_at}
use Rattle.ring_log.specs.EpochHistories.{committed_of}
use Rattle.ring_session.specs.Tickets.{ticket_calls}
use Rattle.ring_session.specs.declared.ticket_answer.TicketAnswer.{TicketAnswer}
use Rattle.ring_node_spec.specs.declared.input.Input.{Input}
use Rattle.ring_node_spec.specs.declared.input.Input.TheVariants.{Frame as Comes, Noise, Timeout, Stop}
use Rattle.ring_node_spec.specs.Nodes.{Node, is_stopped}
use Rattle.ring_node_spec.specs.Stepping.{node_step, submit_fault}
use Rattle.ring_node_spec.specs.declared.event.Event.{Event}
use Rattle.ring_node_spec.specs.declared.event.Event.TheVariants as events
use Rattle.ring_node_spec.specs.declared.item.Item.{Item}
use Rattle.ring_node_spec.specs.declared.item.Item.TheVariants.{Issue as Issued}
use Rattle.ring_node_spec.specs.WorldLimits.{EventFits}
use Rattle.ring_order_proof.specs.Linear.{IsEventCallWithinLimits}
use Rattle.ring_node_spec.specs.Worlds.{World, world_opening, carried_frames, world_after_event, reply_items_of, whole_epochs_in, order, run}
use Rattle.ring_book_lines.specs.declared.frame_ref.FrameRef.{FrameRef}
use Rattle.ring_book_lines.specs.declared.input.LineInput.{LineInput}
use Rattle.ring_book_lines.specs.declared.input.LineInput.TheVariants.{Submitted, Received}
use Rattle.ring_book_lines.specs.Answers.{answers_by_ticket, answers_of_node}
use Rattle.ring_book_lines.specs.Lines.{steps_of}
use Rattle.ring_book_lines.specs.Logs.{committed_calls_of, longest_log}
use Rattle.ring_book_lines.specs.Orders.{calls_of}
use Rattle.ring_book_lines.specs.Steps.{StepView, LineView}

-- all frames of the lines, in the order sent
abbrev pub frames_of : {A : Type 0} → List (LineView A) → List (Transmission A)
frames_of [] = []
frames_of (l ∷ ls) = carried_frames l.step.node l.step.frames ++ frames_of ls

-- the number of the frame at this place, counted from 1 in the order sent
abbrev pub frame_number : {A : Type 0} → List (LineView A) → FrameRef → ℕ
frame_number lines at = suc (length (frames_of (take at.line lines)) + at.place)

-- the event of a node's input after these lines. Noise is a Deliver of frame 0, which nobody sent: both change nothing
abbrev pub event_of_input : {A : Type 0} → List (LineView A) → ℕ → FrameRef → Input A → Event A
event_of_input lines node at (Comes f) = events.Deliver node (frame_number lines at)
event_of_input lines node at Noise = events.Deliver node 0
event_of_input lines node at (Timeout kind) = events.Timeout node kind
event_of_input lines node at Stop = events.Stop node

-- the event of a line's input after these lines: a call was issued, or an input arrived
abbrev pub event_of : {A : Type 0} → List (LineView A) → ℕ → LineInput A → Event A
event_of lines node (Submitted c) = events.Issue node c
event_of lines node (Received input at) = event_of_input lines node at input

-- the events of lines that follow others
abbrev pub events_after : {A : Type 0} → List (LineView A) → List (LineView A) → List (Event A)
events_after before [] = []
events_after before (l ∷ ls) = event_of before l.step.node l.step.input ∷ events_after (before ++ l ∷ []) ls

-- the events of the lines
abbrev pub events_of : {A : Type 0} → List (LineView A) → List (Event A)
events_of lines = events_after [] lines

-- the history items of a step: the issued call, or the replies given
abbrev pub items_in : {A : Type 0} → LineInput A → List (TicketAnswer A) → List (Item A)
items_in (Submitted c) answers = Issued c ∷ []
items_in (Received input at) answers = reply_items_of answers

-- the history of the lines
abbrev pub history_of : {A : Type 0} → List (LineView A) → List (Item A)
history_of [] = []
history_of (l ∷ ls) = items_in l.step.input l.step.answers ++ history_of ls

-- the answers given to the node's tickets
abbrev pub answers_of : {A : Type 0} → Node A → List (Option Answer)
answers_of n = answers_by_ticket (length n.tickets) n.answers

module _ {O : Type 0} (object : Sequential O) where
  -- a frame that is delivered to the node was sent in this world under its number, to that node
  abbrev pub IsSent : {A : Type 0} → World A → List (LineView A) → ℕ → FrameRef → Input A → Type 0
  IsSent {A} w before node at (Comes f) = IsSomeAnd (frame_at w.frames (frame_number before at)) (λ (s : Transmission A). (s.frame ≡ f) × (has s.to node ≡ true))
  IsSent w before node at Noise = Unit {0}
  IsSent w before node at (Timeout kind) = Unit {0}
  IsSent w before node at Stop = Unit {0}

  -- the node takes the event, and the step has exactly the frames, answers and committed calls that the event makes in
  -- this world
  abbrev pub IsDone : {A : Type 0} → World A → List (LineView A) → ℕ → LineInput A → StepView A → Type 0
  IsDone w before node (Submitted c) l = (submit_fault (w.nodes node) ≡ None) × (l.frames ≡ []) × (l.answers ≡ []) × (l.calls ≡ [])
  IsDone w before node (Received input at) l =
      let did = node_step object (w.nodes node) input in
      (is_stopped (w.nodes node).core.state ≡ false) × (l.frames ≡ did.sends) × (l.answers ≡ did.answers)
      × (l.calls ≡ did.committed) × IsSent w before node at input

  -- line by line, from this world on
  abbrev pub AreDone : {A : Type 0} → World A → List (LineView A) → List (LineView A) → Type 0
  AreDone w before [] = Unit {0}
  AreDone w before (l ∷ ls) =
      IsDone w before l.step.node l.step.input l.step × AreDone (world_after_event object w (event_of before l.step.node l.step.input)) (before ++ l ∷ []) ls

  -- The lines are a run of the group: their inputs are its events, with exactly these frames, answers and committed calls.
  -- The run has the frames, the history and the order of the lines. It has each node's calls, by ticket, the answers of
  -- its tickets, and its committed log from the beginning. Each issued call is within the limits.
  pub record IsRun {A : Type 0} (group : Group) (lines : List (LineView A)) : Type 0 where
    pub done : AreDone (world_opening group) [] lines
    pub fit : AllByRecursion EventFits (events_of lines)
    pub keep : AllByRecursion IsEventCallWithinLimits (events_of lines)
    pub frames : (run object (world_opening group) (events_of lines)).frames ≡ frames_of lines
    pub history : (run object (world_opening group) (events_of lines)).history ≡ history_of lines
    pub order : order (run object (world_opening group) (events_of lines)) ≡ deduplicated (longest_log lines)
    pub calls : (i : ℕ) → 1 ≤ i → i ≤ group.count →
        ticket_calls ((run object (world_opening group) (events_of lines)).nodes i).tickets ≡ calls_of (steps_of i lines)
    pub answers : (i : ℕ) → 1 ≤ i → i ≤ group.count →
        answers_of ((run object (world_opening group) (events_of lines)).nodes i) ≡ answers_of_node i lines
    pub committed : (i : ℕ) → 1 ≤ i → i ≤ group.count →
        committed_of group (whole_epochs_in (run object (world_opening group) (events_of lines)) i) ≡ committed_calls_of i lines
