-- The messages of a queue, re-exported for the ring core.
pub use Rattle.ring_wire.proofs.Packing.{length-packed_payloads}
