-- A node's inputs, re-exported to the node.
pub use Rattle.ring_replication.specs.InputVariants.{Frame, Stop}
