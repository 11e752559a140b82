-- Which node an event stopped because an allocation failed in its step.
-- Rules: The book and the threads 7; Refusals 6
use Rattle.std.specs.Prelude.{◌≡◌, ℕ, ◌-◌, List, length, Option, Some, None, slice_get}
use Rattle.ring_object.specs.Operations.{Sequential}
use Rattle.ring_node_spec.specs.declared.event.Event.{Event}
use Rattle.ring_node_spec.specs.declared.event.Event.TheVariants.{Issue, Deliver, Noise, Timeout, Stop}
use Rattle.ring_world.specs.WorldView.{WorldView, IsStopped}

-- the node that the event stops, if it is a stop
abbrev pub stop_of : {A : Type 0} → Option (Event A) → Option ℕ
stop_of None = None
stop_of (Some (Issue i c)) = None
stop_of (Some (Deliver i k)) = None
stop_of (Some (Noise i bytes)) = None
stop_of (Some (Timeout i kind)) = None
stop_of (Some (Stop i)) = Some i

-- the node that the last event stops, if it is a stop
abbrev pub last_stop : {A : Type 0} → List (Event A) → Option ℕ
last_stop events = stop_of (slice_get events (length events - 1))

-- the node that the last event stops in place of `e`, which can be a step of a node and is no stop itself
abbrev pub stopped_for_memory : {A : Type 0} → Event A → List (Event A) → Option ℕ
stopped_for_memory (Deliver i k) events = last_stop events
stopped_for_memory (Timeout i kind) events = last_stop events
stopped_for_memory (Issue i c) events = None
stopped_for_memory (Noise i bytes) events = None
stopped_for_memory (Stop i) events = None

-- the event is a step of this node, and an allocation failed in it
abbrev pub IsStoppedAt : {O A : Type 0} → Sequential O → Event A → ℕ → WorldView A → WorldView A → Type 0
IsStoppedAt object e node p q = (s : IsStopped object e p q) × (s.node ≡ node)
