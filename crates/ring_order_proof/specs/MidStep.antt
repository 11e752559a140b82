-- A world of nodes between a step of one core and the handing over of the due payloads. At this point a base is tested for the
-- node's committed places.
-- Rules: The replicated log 6 to 8
use Rattle.std.specs.Prelude.{◌≡◌, ℕ, true, ◌++◌, filter_map, Some}
use Rattle.ring_base.specs.Processors.{has}
use Rattle.ring_core_spec.specs.declared.input.Input.{Input}
use Rattle.ring_core_spec.specs.declared.input.Input.TheVariants.{Frame as FrameInput, Timeout as TimeInput, Send as SendInput}
use Rattle.ring_core_spec.specs.State.{Transmission, frame_at}
use Rattle.ring_core_spec.specs.Stepping.{ring_step}
use Rattle.ring_core_proof.specs.Worlds.{transmission_by}
use Rattle.ring_node_spec.specs.EpochHistories.{epochs_after}
use Rattle.ring_node_spec.specs.Nodes.{Node}
use Rattle.ring_node_spec.specs.Worlds.{World, with_node}

-- an input that a node's core may get: a timeout, or a frame that was sent to the node
abbrev pub MayCome : {A : Type 0} → World A → ℕ → Input A → Type 0
MayCome {A} w i (FrameInput frame) = (k : ℕ) × (f : Transmission A) × (frame_at w.frames k ≡ Some f) × (has f.to i ≡ true) × (f.frame ≡ frame)
MayCome w i (TimeInput kind) = Unit {0}
MayCome w i (SendInput payload) = ⊥

-- the node after its core's step, with its epochs extended by the core's outputs
abbrev pub stepped_node : {A : Type 0} → Node A → Input A → Node A
stepped_node n input = record n { core = (ring_step n.core input).core; epochs = epochs_after n.epochs (ring_step n.core input).outs }

-- the world after a step of node i's core, with its frames sent and nothing handed over yet
abbrev pub world_after_core_step : {A : Type 0} → World A → ℕ → Input A → World A
world_after_core_step w i input =
    record w { nodes = with_node w.nodes i (stepped_node (w.nodes i) input); frames = w.frames ++ filter_map (transmission_by i) (ring_step (w.nodes i).core input).outs }
