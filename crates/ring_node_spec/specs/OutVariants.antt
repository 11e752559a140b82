-- The variants of a ring core's outputs, re-exported to the crates above.
pub use Rattle.ring_core_spec.specs.declared.out.Out.TheVariants.{Send, Agreed, Safe, Trans, Rest, Regular}
