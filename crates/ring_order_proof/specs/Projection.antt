-- A world of nodes seen as a world of ring cores: the nodes' logs, tickets and sessions are left out.
-- Rules: Rings and states 14; The replicated log 1
use Rattle.std.specs.Prelude.{◌≡◌, ℕ, Bool, true, false, ◌&&◌, List, [], ◌∷◌, ◌++◌, map, Option, Some, None}
use Rattle.ring_base.specs.Group.{Group}
use Rattle.ring_base.specs.Processors.{has}
use Rattle.ring_base.specs.declared.fault.Fault.{Fault}
use Rattle.ring_object.specs.Operations.{Sequential}
use Rattle.ring_payload.specs.declared.call.Call.{Call}
use Rattle.ring_payload.specs.declared.content.Payload.{Payload}
use Rattle.ring_wire.specs.declared.frame.Frame.{Frame}
use Rattle.ring_core_spec.specs.declared.input.Input.{Input}
use Rattle.ring_core_spec.specs.declared.input.Input.TheVariants.{Frame as FrameInput, Timeout as TimeInput}
use Rattle.ring_core_spec.specs.declared.out.Out.{Out}
use Rattle.ring_core_spec.specs.State.{Transmission, StepResult, frame_at}
use Rattle.ring_core_spec.specs.Stepping.{ring_step}
use Rattle.ring_log.specs.Epochs.{Epoch, history_opening_of}
use Rattle.ring_node_spec.specs.DueSends.{due_of_outputs}
use Rattle.ring_node_spec.specs.EpochHistories.{epochs_after}
use Rattle.ring_node_spec.specs.Nodes.{Node, is_restored}
use Rattle.ring_node_spec.specs.Stepping.{due_by_submit, submit_fault}
use Rattle.ring_node_spec.specs.declared.event.Event.{Event}
use Rattle.ring_node_spec.specs.declared.event.Event.TheVariants.{Issue, Deliver, Noise, Timeout, Stop}
use Rattle.ring_node_spec.specs.Worlds.{World, world_opening, is_node, world_after_event, run as node_run}
use Rattle.ring_core_proof.specs.declared.event.RingEvent.{RingEvent}
use Rattle.ring_core_proof.specs.declared.event.RingEvent.TheVariants.{Send, Deliver as RingDeliver, Timeout as RingTimeout, Stop as RingStop}
use Rattle.ring_core_proof.specs.Worlds.{World as RingWorld, run, unformed}
use Rattle.ring_core_proof.specs.Lives.{outs_of}
use Rattle.ring_log.specs.KnownLog.{known_log_of, is_known_log_sound}

-- the nodes' cores and the frames that these sent, with the cores' outputs
abbrev pub ring_part : {A : Type 0} → World A → List (ℕ × Out A) → RingWorld A
ring_part w outs = record { total = w.group.count; cores = λ i. (w.nodes i).core; frames = w.frames; outs = outs }

-- an epoch without the payloads that its node handed to its core there, and without its trimmed length
abbrev pub epoch_as_received : {A : Type 0} → Epoch A → Epoch A
epoch_as_received s = record s { sent = []; trimmed = 0 }

-- the epochs without these: the messages that the node received, and the safe marks
abbrev pub epochs_as_received : {A : Type 0} → List (Epoch A) → List (Epoch A)
epochs_as_received {A} epochs = map (λ (s : Epoch A). epoch_as_received s) epochs

-- the nodes' cores are those of a run of ring cores, with these outputs; and each node's epochs consist of its core's
-- outputs
pub record IsRingRun {A : Type 0} (group : Group) (w : World A) : Type 0 where
  pub events : List (RingEvent A)
  pub outs : List (ℕ × Out A)
  pub part : run (unformed group.count) events ≡ ring_part w outs
  pub node_epochs : (i : ℕ) → epochs_as_received (w.nodes i).epochs ≡ epochs_after (history_opening_of i) (outs_of (ring_part w outs) i)

-- The events of cores in an event of nodes

-- events of ring cores, and the cores' outputs in them
pub record CoreEvents (A : Type 0) : Type 0 where
  pub events : List (RingEvent A)
  pub outs : List (ℕ × Out A)

-- no events, and no outputs
abbrev pub no_core_events : {A : Type 0} → CoreEvents A
no_core_events = record { events = []; outs = [] }

-- the events that hand payloads to core i
abbrev pub sends_to : {A : Type 0} → ℕ → List (Payload A) → List (RingEvent A)
sends_to {A} i ps = map (λ (p : Payload A). Send i p) ps

-- the outputs of core i
abbrev pub by : {A : Type 0} → ℕ → List (Out A) → List (ℕ × Out A)
by {A} i outs = map (λ (o : Out A). (i, o)) outs

-- a core's step and the payloads handed over after it; if the log stops the node, the core stops without outputs
abbrev pub core_events_if_sound : {A : Type 0} → Bool → ℕ → RingEvent A → List (Payload A) → List (Out A) → CoreEvents A
core_events_if_sound false i event due outs = record { events = RingStop i ∷ []; outs = [] }
core_events_if_sound true i event due outs = record { events = event ∷ sends_to i due; outs = by i outs }

module _ {O : Type 0} (object : Sequential O) where
  -- the events of a node's step: its core's step, and the due payloads after it; if the log stops the node, its core stops
  abbrev pub core_events_of_step : {A : Type 0} → Node A → ℕ → RingEvent A → StepResult A → CoreEvents A
  core_events_of_step n i event s =
      let k = known_log_of n.group (epochs_after n.epochs s.outs) in
      core_events_if_sound (is_known_log_sound n.group (epochs_after n.epochs s.outs) && is_restored object k) i event (due_of_outputs object n s.core n.epochs s.outs) s.outs

  -- the events of a step of node i, if the node exists
  abbrev pub core_events_if : {A : Type 0} → Bool → World A → ℕ → RingEvent A → Input A → CoreEvents A
  core_events_if false w i event input = no_core_events
  core_events_if true w i event input = core_events_of_step (w.nodes i) i event (ring_step (w.nodes i).core input)

  -- the events of a delivery, if the frame was sent to the node
  abbrev pub core_events_of_delivery_if : {A : Type 0} → Bool → World A → ℕ → ℕ → Frame A → CoreEvents A
  core_events_of_delivery_if false w i k frame = no_core_events
  core_events_of_delivery_if true w i k frame = core_events_if (is_node w i) w i (RingDeliver i k) (FrameInput frame)

  -- the events of a delivery, if the frame was sent at all
  abbrev pub core_events_of_delivery : {A : Type 0} → World A → ℕ → ℕ → Option (Transmission A) → CoreEvents A
  core_events_of_delivery w i k None = no_core_events
  core_events_of_delivery w i k (Some f) = core_events_of_delivery_if (has f.to i) w i k f.frame

-- the events of a submit: the due payload is handed over
abbrev pub core_events_of_submit : {A : Type 0} → Option Fault → World A → ℕ → Call A → CoreEvents A
core_events_of_submit (Some fault) w i c = no_core_events
core_events_of_submit None w i c = record { events = sends_to i (due_by_submit (w.nodes i) c); outs = [] }

-- the events of a submit at node i, if the node exists
abbrev pub core_events_of_submit_if : {A : Type 0} → Bool → World A → ℕ → Call A → CoreEvents A
core_events_of_submit_if false w i c = no_core_events
core_events_of_submit_if true w i c = core_events_of_submit (submit_fault (w.nodes i)) w i c

-- the events of a stop, if the node exists: its core stops
abbrev pub core_events_of_stop_if : {A : Type 0} → Bool → ℕ → CoreEvents A
core_events_of_stop_if false i = no_core_events
core_events_of_stop_if true i = record { events = RingStop i ∷ []; outs = [] }

-- two lists of events, one after the other
abbrev pub core_events_joined : {A : Type 0} → CoreEvents A → CoreEvents A → CoreEvents A
core_events_joined a b = record { events = a.events ++ b.events; outs = a.outs ++ b.outs }

module _ {O : Type 0} (object : Sequential O) where
  -- the events of cores in an event of nodes
  abbrev pub core_events : {A : Type 0} → World A → Event A → CoreEvents A
  core_events w (Issue i c) = core_events_of_submit_if (is_node w i) w i c
  core_events w (Deliver i k) = core_events_of_delivery object w i k (frame_at w.frames k)
  core_events w (Noise i bytes) = no_core_events
  core_events w (Timeout i kind) = core_events_if object (is_node w i) w i (RingTimeout i kind) (TimeInput kind)
  core_events w (Stop i) = core_events_of_stop_if (is_node w i) i

  -- the events of cores in a run of nodes
  abbrev pub core_events_of_run : {A : Type 0} → World A → List (Event A) → CoreEvents A
  core_events_of_run w [] = no_core_events
  core_events_of_run w (e ∷ es) = core_events_joined (core_events w e) (core_events_of_run (world_after_event object w e) es)

-- the ring part of the run consists of exactly these events and outputs
pub record IsProjected {O A : Type 0} (object : Sequential O) (group : Group) (events : List (Event A)) : Type 0 where
  pub ring : IsRingRun group (node_run object (world_opening group) events)
  pub events_are : ring.events ≡ (core_events_of_run object (world_opening group) events).events
  pub outs_are : ring.outs ≡ (core_events_of_run object (world_opening group) events).outs
