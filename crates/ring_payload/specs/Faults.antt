-- Refusals, re-exported for frames.
pub use Rattle.ring_codec.specs.FaultReexports.{BadFrame, Memory}
