-- Definitions of nodes, events and worlds, re-exported for the code that runs scripts.
pub use Rattle.ring_node_spec.specs.Histories.{IsLinearization}
pub use Rattle.ring_node_spec.specs.Nodes.{Node, node_known_log, node_length, node_trimmed}
pub use Rattle.ring_node_spec.specs.WorldLimits.{EventFits}
pub use Rattle.ring_node_spec.specs.Worlds.{World, order}
pub use Rattle.ring_node_spec.specs.declared.event.Event.{Event}
pub use Rattle.ring_node_spec.specs.declared.client_report.Told.{Told}
