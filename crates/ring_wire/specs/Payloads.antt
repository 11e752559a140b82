-- Definitions of payloads, re-exported for the crates of a ring core's parts and for the log.
pub use Rattle.ring_payload.specs.Limits.{max_requests, max_snapshot, max_piece_bytes}
pub use Rattle.ring_payload.specs.declared.content.Payload.{Payload}
pub use Rattle.ring_payload.specs.Packing.{is_queued, packed_payloads, unpacked_rest}
pub use Rattle.ring_payload.specs.PayloadKinds.{is_user, is_end, payload_of, content_of, calls_of}
pub use Rattle.ring_payload.specs.declared.content.WrappedPayload.{WrappedPayload}
pub use Rattle.ring_payload.specs.declared.call.Call.{Call}
pub use Rattle.ring_payload.specs.Calls.{CallFits}
pub use Rattle.ring_payload.specs.SameCalls.{is_same, is_same-true, is_same-self}
pub use Rattle.ring_payload.specs.declared.content.Wrapped.{Wrapped}
pub use Rattle.ring_payload.specs.declared.calls.Part.{Part}
pub use Rattle.ring_payload.specs.declared.head.Head.{Head}
pub use Rattle.ring_payload.specs.declared.snap.Snap.{Snap}
