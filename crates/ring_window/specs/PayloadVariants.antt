-- The variants of payloads, re-exported for recovery.
pub use Rattle.ring_wire.specs.PayloadVariants.{Call, Wrapped, End, Head, Part, Pack, Snap}
