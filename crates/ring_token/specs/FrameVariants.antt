-- The variants of frames, re-exported for the ring core.
pub use Rattle.ring_wire.specs.declared.frame.Frame.TheVariants.{Join, Commit, Message, Token}
