-- The order and history of a host's clients, re-exported for readers of a run's result.
pub use Rattle.ring_host_port.specs.ClientCalls.{AreOfLines, AreOfRun}
