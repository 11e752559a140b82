-- The variants of payloads, re-exported for the crates above the ring core.
pub use Rattle.ring_token.specs.PayloadVariants.{Call, Head, Part, Snap}
