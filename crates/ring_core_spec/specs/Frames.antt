-- Definitions of frames and messages, re-exported for the crates above the ring core.
pub use Rattle.ring_token.specs.Frames.{Message, FrameFits, Frame}
