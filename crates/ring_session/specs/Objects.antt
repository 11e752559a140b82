-- Objects, re-exported for the rules of nodes.
pub use Rattle.ring_object.specs.Operations.{Sequential}
