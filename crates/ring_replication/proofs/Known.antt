-- The known log stays well formed; re-exported to the replica.
pub use Rattle.ring_log_proof.proofs.KnownLogs.{known-epoch}
