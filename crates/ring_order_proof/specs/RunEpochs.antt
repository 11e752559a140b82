-- The epochs of the nodes of a world: as the nodes know them, and filled with the places that snapshots replace.
-- Rules: The replicated log 1
pub use Rattle.ring_node_spec.specs.Worlds.{epochs_in, whole_epochs_in}
