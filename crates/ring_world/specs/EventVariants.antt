-- The variants of `Event`, re-exported for the code that runs scripts.
pub use Rattle.ring_node_spec.specs.declared.event.Event.TheVariants.{Issue, Deliver, Noise, Timeout, Stop}
