-- The type of messages, re-exported for the users of a window.
pub use Rattle.ring_wire.specs.declared.message.Message.{Message}
