-- The events of a world since its opening, and how a run continues it. Each event is done, or recorded as `Stop` if an
-- allocation failed in its step, or left out if one failed in its submit.
-- Rules: The book and the threads 1 to 8
use Rattle.std.specs.Prelude.{◌≡◌, ℕ, Bool, true, false, not, ◌==◌, ◌&&◌, if◌then◌else◌, ◌⊎◌, List, [], ◌∷◌, ◌++◌, length, drop, filter}
use Rattle.std.specs.Prelude.{Option, Some, None}
use Rattle.ring_base.specs.Group.{Group}
use Rattle.ring_base.specs.Processors.{has}
use Rattle.ring_object.specs.Operations.{Sequential}
use Rattle.ring_payload.specs.declared.call.Call.{Call}
use Rattle.ring_core_spec.specs.State.{Transmission, frame_at}
use Rattle.ring_node_spec.specs.Nodes.{is_stopped}
use Rattle.ring_node_spec.specs.Stepping.{submit_fault}
use Rattle.ring_node_spec.specs.declared.event.Event.{Event}
use Rattle.ring_node_spec.specs.declared.event.Event.TheVariants.{Issue, Deliver, Noise, Timeout, Stop}
use Rattle.ring_node_spec.specs.declared.client_report.Told.{Told}
use Rattle.ring_node_spec.specs.declared.client_report.Told.TheVariants.{Answer, Refused}
use Rattle.ring_node_spec.specs.Worlds.{World, world_opening, run, world_after_event, is_node}

-- the view of contracts: all events since the opening, the reports to clients, and the number of events that the last run
-- did
pub record WorldView (A : Type 0) : Type 0 where
  pub group : Group
  pub events : List (Event A)
  pub told : List (Told A)
  pub done : ℕ

-- the view of a world of this group at its opening: no events and no reports
abbrev pub opening_world_view : {A : Type 0} → Group → WorldView A
opening_world_view group = record { group = group; events = []; told = []; done = 0 }

-- the refusal of a submit in which an allocation failed; no event is recorded for it
abbrev pub is_memory_refusal : {A : Type 0} → Told A → Bool
is_memory_refusal (Answer i c answer) = false
is_memory_refusal (Refused i c number) = number == 11

-- the reports of the recorded events: all except refusals for memory, since no recorded event reports one
abbrev pub told_of_events : {A : Type 0} → List (Told A) → List (Told A)
told_of_events told = filter (λ (t : Told _). not (is_memory_refusal t)) told

-- the node is one of the world and has not stopped
abbrev pub is_running_in : {A : Type 0} → World A → ℕ → Bool
is_running_in w i = is_node w i && not (is_stopped (w.nodes i).core.state)

-- the node, if the frame was sent to it
abbrev pub receiver_of_frame : {A : Type 0} → ℕ → Option (Transmission A) → Option ℕ
receiver_of_frame i None = None
receiver_of_frame i (Some f) = if has f.to i then Some i else None

-- the node that the event may step; a frame is delivered only to a node that it was sent to
abbrev pub stepping_node_in : {A : Type 0} → World A → Event A → Option ℕ
stepping_node_in w (Deliver i k) = receiver_of_frame i (frame_at w.frames k)
stepping_node_in w (Timeout i kind) = Some i
stepping_node_in w (Issue i c) = None
stepping_node_in w (Noise i bytes) = None
stepping_node_in w (Stop i) = None

module _ {O : Type 0} (object : Sequential O) where
  -- the world after all events of the view
  abbrev pub world_of : {A : Type 0} → WorldView A → World A
  world_of p = run object (world_opening p.group) p.events

  -- the reports of the event in this world
  abbrev pub told_by_event : {A : Type 0} → World A → Event A → List (Told A)
  told_by_event w e = drop (length w.told) (world_after_event object w e).told

  -- the event was done
  pub record IsDone {A : Type 0} (e : Event A) (p q : WorldView A) : Type 0 where
    pub group : q.group ≡ p.group
    pub events : q.events ≡ p.events ++ e ∷ []
    pub told : q.told ≡ p.told ++ told_by_event (world_of p) e

  -- the event was a step of a running node, and memory was refused to it: `Stop` is recorded in its place
  pub record IsStopped {A : Type 0} (e : Event A) (p q : WorldView A) : Type 0 where
    pub node : ℕ
    pub steps : stepping_node_in (world_of p) e ≡ Some node
    pub known : is_running_in (world_of p) node ≡ true
    pub group : q.group ≡ p.group
    pub events : q.events ≡ p.events ++ Stop node ∷ []
    pub told : q.told ≡ p.told

  -- the event was a submit that was refused only because an allocation failed: it is left out, and its refusal is
  -- reported
  pub record IsRefused {A : Type 0} (e : Event A) (p q : WorldView A) : Type 0 where
    pub node : ℕ
    pub call : Call A
    pub issues : e ≡ Issue node call
    pub known : is_node (world_of p) node ≡ true
    pub taken : submit_fault ((world_of p).nodes node) ≡ None
    pub group : q.group ≡ p.group
    pub events : q.events ≡ p.events
    pub told : q.told ≡ p.told ++ Refused node call 11 ∷ []

  -- the outcome of one event: done, recorded as `Stop`, or left out
  abbrev pub IsEventOutcome : {A : Type 0} → Event A → WorldView A → WorldView A → Type 0
  IsEventOutcome e p q = IsDone e p q ⊎ (IsStopped e p q ⊎ IsRefused e p q)

  -- running the events leads from one view to the other
  abbrev pub IsRunOfEvents : {A : Type 0} → List (Event A) → WorldView A → WorldView A → Type 0
  IsRunOfEvents [] p q = (q.group ≡ p.group) × (q.events ≡ p.events) × (q.told ≡ p.told)
  IsRunOfEvents {A} (e ∷ es) p q = (m : WorldView A) × IsEventOutcome e p m × IsRunOfEvents es m q
