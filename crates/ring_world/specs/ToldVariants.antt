-- The variants of `Told`, re-exported for the code that prints it.
pub use Rattle.ring_node_spec.specs.declared.client_report.Told.TheVariants.{Answer, Refused}
