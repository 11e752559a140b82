-- What a node's step restores.
-- Formats: The command line
use Rattle.std.specs.Prelude.{◌≡◌, ℕ, false, List, Option}
use Rattle.ring_object.specs.Operations.{Sequential}
use Rattle.ring_wire.specs.IsFrameEncoding.{IsFrameEncoding}
use Rattle.ring_wire.specs.declared.frame.Frame.{Frame}
use Rattle.ring_node_spec.specs.Nodes.{Node, is_stopped}
use Rattle.ring_node_spec.specs.Stepping.{node_step}
use Rattle.ring_node_spec.specs.declared.input.Input.TheVariants as input
use Rattle.ring_node.specs.Restores.{node_restored}

-- The bytes are a frame, and the number is that of the places that the node's step on it restores, unless the node has
-- stopped.
pub record IsRestoredBy {O A : Type 0} (object : Sequential O) (node : Node A) (bytes : List ℕ) (restored : Option ℕ) : Type 0 where
  pub frame : Frame A
  pub encodes : IsFrameEncoding frame bytes
  pub exact : is_stopped node.core.state ≡ false → restored ≡ node_restored node (node_step object node (input.Frame frame)).node
