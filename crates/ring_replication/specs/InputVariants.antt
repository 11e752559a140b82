-- A node's inputs, re-exported to the node.
pub use Rattle.ring_node_spec.specs.declared.input.Input.TheVariants.{Frame, Stop}
