-- The type of messages, re-exported to the proof of the log.
pub use Rattle.ring_wire.specs.declared.message.Message.{Message}
