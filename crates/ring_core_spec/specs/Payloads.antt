-- Payloads and their limits, re-exported for the crates above the ring core.
pub use Rattle.ring_token.specs.Payloads.{Call, max_snapshot, Payload, CallFits}
