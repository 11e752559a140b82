-- Definitions of nodes, re-exported to the node.
pub use Rattle.ring_replication.specs.NodeSpec.{Input, InputFits, Node, NodeStepResult, after_core, drops, effects_at, handed_over, is_closed, is_restored, is_stopped}
pub use Rattle.ring_replication.specs.NodeSpec.{epochs_after, node_committed, node_known_log, node_length, node_opening, node_pending, node_reply, node_step, node_stopped, node_trimmed, submit_fault, node_after_submit}
