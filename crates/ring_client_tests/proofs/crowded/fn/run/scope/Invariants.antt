use Rattle.ring_host_port.specs.Clients.{AreSeats}
use Rattle.ring_client_tests.proofs.crowded.fn.run.scope.Given as goal

abbrev pub invariant-loop-before : goal.invariant-loop-before
invariant-loop-before g l = AreSeats l.host.gauge l.nodes l.seats.items
