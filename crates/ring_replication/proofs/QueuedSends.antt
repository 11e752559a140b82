-- The core after payloads are handed to it without outputs; re-exported to the replica.
pub use Rattle.ring_node_spec.proofs.QueuedSends.{queued_all}
