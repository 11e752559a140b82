-- The variants of contents, re-exported for the ring core.
pub use Rattle.ring_wire.specs.ContentVariants.{Call, Head, Part, Pack, Snap}
