-- Commit tokens and their entries, re-exported for the users of their rounds.
pub use Rattle.ring_wire.specs.declared.commit.CommitToken.{CommitToken}
pub use Rattle.ring_wire.specs.declared.entries.CommitEntry.{CommitEntry}
pub use Rattle.ring_wire.specs.Entries.{bit_of}
