-- The variants of payloads, re-exported for the ring core.
pub use Rattle.ring_wire.specs.PayloadVariants.{Call, Wrapped, End, Head, Part, Pack, Snap}
