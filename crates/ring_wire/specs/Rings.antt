-- The limits of processors and rings in frames, re-exported for proofs about limits.
pub use Rattle.ring_payload.specs.Codecs.{RingFits, SomeRingFits, SomeProcFits}
