-- Lemmas about the effects of joins, re-exported for the crates above the ring core.
pub use Rattle.ring_join.proofs.Consensus.{agrees_same}
