-- Lemmas on replications, re-exported to the node.
pub use Rattle.ring_replication.proofs.Messages.{never-less}
