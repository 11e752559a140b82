-- Definitions of replications, re-exported to the node.
pub use Rattle.ring_replication.specs.Replications.{rises, HasSoundEpochs, StepContext, due_sends_by, handed_if}
