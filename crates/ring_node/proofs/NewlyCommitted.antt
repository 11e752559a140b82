-- If the known log is the same, nothing is newly committed; re-exported from the replica.
pub use Rattle.ring_replica.proofs.IdleReplicas.{newly_committed-nothing}
