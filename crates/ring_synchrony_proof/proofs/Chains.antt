-- Lemmas about the chain of visits in runs, re-exported for the proof of the one order.
pub use Rattle.ring_chain_proof.proofs.Rings.{AreRings, one_members}
pub use Rattle.ring_chain_proof.proofs.ChainInRuns.{unformed_marks}
pub use Rattle.ring_chain_proof.proofs.AllLayers.{Holds}
pub use Rattle.ring_chain_proof.proofs.SafeOutputs.{unformed_told}
pub use Rattle.ring_chain_proof.proofs.TakingPart.{unformed_same_members}
pub use Rattle.ring_chain_proof.proofs.Tells.{unformed_held}
