use Rattle.ring_host_port.specs.Clients.{AreSeats}
use Rattle.ring_client_threads.proofs.running.fn.run_nodes_and_callers.scope.Given as goal

abbrev pub invariant-loop-caller : goal.invariant-loop-caller
invariant-loop-caller g l = AreSeats l.host.gauge l.nodes l.seats.items
