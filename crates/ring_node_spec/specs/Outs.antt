-- The outputs of a ring core, re-exported to the crates above.
pub use Rattle.ring_core_spec.specs.declared.out.Out.{Out}
pub use Rattle.ring_core_spec.specs.State.{OutgoingFrame}
