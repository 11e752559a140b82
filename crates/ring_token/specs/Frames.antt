-- Frames and their parts, re-exported for the ring core.
pub use Rattle.ring_wire.specs.declared.entries.CommitEntry.{CommitEntry}
pub use Rattle.ring_wire.specs.declared.message.Message.{Message}
pub use Rattle.ring_wire.specs.declared.commit.CommitToken.{CommitToken}
pub use Rattle.ring_wire.specs.declared.frame.Frame.{Frame}
pub use Rattle.ring_wire.specs.declared.join.Join.{Join}
pub use Rattle.ring_wire.specs.declared.token.Token.{Token}
pub use Rattle.ring_wire.specs.Frames.{FrameFits}
