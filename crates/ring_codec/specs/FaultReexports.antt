-- Refusals, re-exported for the crates of frames.
pub use Rattle.ring_base.specs.declared.fault.Fault.TheVariants.{BadFrame, Memory, NumberGap, OpTooLong}
