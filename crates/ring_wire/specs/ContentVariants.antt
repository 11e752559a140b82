-- The variants of contents, re-exported for the crates of a ring core's parts.
pub use Rattle.ring_payload.specs.declared.content.WrappedPayload.TheVariants.{Call, Head, Part, Pack, Snap}
