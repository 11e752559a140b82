-- Inputs within the limits of their format, re-exported from the ring core's transitions.
pub use Rattle.ring_srp_transitions.specs.Allowing.{InputFits}
