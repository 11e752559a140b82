-- Predicates and types of payloads, re-exported for the ring core.
pub use Rattle.ring_wire.specs.Payloads.{Payload, is_queued, packed_payloads, unpacked_rest, is_user, WrappedPayload, Call, max_snapshot, CallFits}
