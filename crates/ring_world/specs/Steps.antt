-- The input by which an event steps a node, and the outcome of that step.
-- Rules: The book and the threads 1 to 8
use Rattle.std.specs.Prelude.{◌≡◌, ℕ, false, if◌then◌else◌, List, Option, Some, None, option_map, Result, OnOk, OnErr, IfErr}
use Rattle.ring_base.specs.declared.fault.Fault.{Fault}
use Rattle.ring_base.specs.declared.fault.Fault.TheVariants.{Memory, Stopped as StoppedFault}
use Rattle.ring_object.specs.Operations.{Sequential}
use Rattle.ring_wire.specs.declared.frame.Frame.{Frame}
use Rattle.ring_core_spec.specs.State.{Transmission, frame_at, frame_for}
use Rattle.ring_node.specs.declared.outs.Outs.{Outs}
use Rattle.ring_node.specs.EmptyResults.{IsEmptyResult}
use Rattle.ring_node_spec.specs.Nodes.{Node, node_stopped, is_stopped}
use Rattle.ring_node_spec.specs.Stepping.{node_step}
use Rattle.ring_node_spec.specs.declared.event.Event.{Event}
use Rattle.ring_node_spec.specs.declared.event.Event.TheVariants.{Issue, Deliver, Noise, Timeout, Stop}
use Rattle.ring_node_spec.specs.declared.input.Input.{Input}
use Rattle.ring_node_spec.specs.declared.input.Input.TheVariants.{Frame as FrameInput, Timeout as TimeInput}

-- the node that the event may step
abbrev pub stepping_node : {A : Type 0} → Event A → Option ℕ
stepping_node (Deliver i k) = Some i
stepping_node (Timeout i kind) = Some i
stepping_node (Issue i c) = None
stepping_node (Noise i bytes) = None
stepping_node (Stop i) = None

-- the frame that the event delivers, of all frames sent; only to a node that it was sent to
abbrev pub delivered_frame : {A : Type 0} → Event A → List (Transmission A) → Option (Frame A)
delivered_frame (Deliver i k) frames = frame_for i (frame_at frames k)
delivered_frame (Timeout i kind) frames = None
delivered_frame (Issue i c) frames = None
delivered_frame (Noise i bytes) frames = None
delivered_frame (Stop i) frames = None

-- the input of that step, with the frame in `place`
abbrev pub event_input : {A : Type 0} → Event A → Option (Frame A) → Option (Input A)
event_input (Deliver i k) place = option_map (λ (frame : Frame _). FrameInput frame) place
event_input (Timeout i kind) place = Some (TimeInput kind)
event_input (Issue i c) place = None
event_input (Noise i bytes) place = None
event_input (Stop i) place = None

-- a node has stepped by an input, or was refused: its new state, and the outputs in the lists
pub record HasStepped {O A T : Type 0} (object : Sequential O) (n : Node A) (input : Input A) (answer : Result T Fault)
    (now : Node A) (outs : Outs A) : Type 0 where
  pub runs : OnOk answer (is_stopped n.core.state ≡ false)
  pub sends : OnOk answer (outs.sends.items ≡ (node_step object n input).sends)
  pub answers : OnOk answer (outs.answers.items ≡ (node_step object n input).answers)
  pub committed : OnOk answer (outs.committed.items ≡ (node_step object n input).committed)
  pub nothing : OnErr answer (IsEmptyResult outs)
  pub ok : OnOk answer (now ≡ (node_step object n input).node)
  pub err : OnErr answer (now ≡ node_stopped n)
  pub refused : IfErr answer (λ fault. fault ≡ (if is_stopped n.core.state then StoppedFault else Memory))
