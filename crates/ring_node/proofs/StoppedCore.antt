-- The result of a stopped core's step, re-exported from the ring core.
pub use Rattle.ring_srp.proofs.PayloadSent.{GaveNothing}
pub use Rattle.ring_srp.proofs.StoppedCore.{stopped_step}
