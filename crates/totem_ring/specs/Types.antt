-- Types of the library, for the definitions of a user's program.
pub use Rattle.ring_base.specs.declared.fault.Fault.{Fault}
pub use Rattle.ring_base.specs.declared.fault.Fault.TheVariants.{NotMember, PendingFull, OpTooLong, Conflict, Stale, NumberGap, SessionsFull, Stopped}
pub use Rattle.ring_base.specs.declared.fault.Fault.TheVariants.{BookFull, Stranger, Memory, BadFrame, BadScript, NoAnswer, BadSnapshot}
pub use Rattle.ring_things.specs.declared.keyed_operation.KeyedOperation.{KeyedOperation}
pub use Rattle.ring_things.specs.declared.replies.ReplyParts.{ReplyParts}
