-- Definitions of nodes, re-exported to the replica and the node.
pub use Rattle.ring_node_spec.specs.DueSends.{DueContext, node_context, calls_due, due_at_output, due_at_agreed, due_of_outputs, due_in_epoch, due_when_heads_complete, due_when_complete, is_snapshot_kept, has_all_heads, owner_due, owner_due_on_heads, parts_due, places_due, uncommitted_places, snaps_due}
pub use Rattle.ring_node_spec.specs.EpochHistories.{epochs_after_event, epochs_after}
pub use Rattle.ring_node_spec.specs.NodeLimits.{InputFits}
pub use Rattle.ring_node_spec.specs.Nodes.{Node, effects_at, is_closed, is_restored, is_stopped, node_committed, node_known_log, node_length, node_opening, node_pending, node_reply, node_stopped, node_trimmed, is_core_running_in, is_running_ring, snapshot_at, snapshot_kept, table_after_places, table_before, restored_table_or}
pub use Rattle.ring_node_spec.specs.Stepping.{NodeStepResult, after_core, drops, handed_over, newly_committed, node_step, empty_step, send_of, settled, submit_fault, node_after_submit, table_since, node_after_outputs}
pub use Rattle.ring_node_spec.specs.declared.input.Input.{Input}
