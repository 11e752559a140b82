-- The messages of a queue, re-exported for the crates of a ring core's parts.
pub use Rattle.ring_payload.proofs.Packing.{length-packed_payloads}
