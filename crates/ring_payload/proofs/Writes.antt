-- Writing bytes one after another, re-exported for frames.
pub use Rattle.ring_codec.proofs.Writes.{and_then}
