-- The variants of payloads, re-exported for the crates of a ring core's parts and for the log.
pub use Rattle.ring_payload.specs.declared.content.Payload.TheVariants.{Call, Wrapped, End, Head, Part, Pack, Snap}
