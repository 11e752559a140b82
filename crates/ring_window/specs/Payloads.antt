-- Predicates and types of payloads, re-exported for recovery.
pub use Rattle.ring_wire.specs.Payloads.{is_user, is_end, payload_of, content_of, WrappedPayload, Payload, Wrapped}
