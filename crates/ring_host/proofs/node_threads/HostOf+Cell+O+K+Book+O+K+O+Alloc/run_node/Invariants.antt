use Rattle.ring_seat.specs.Seats.{IsOwn}
use Rattle.ring_host.proofs.node_threads.HostOf+Cell+O+K+Book+O+K+O+Alloc.run_node.Given as goal

abbrev pub invariant-loop : goal.invariant-loop
invariant-loop g l = IsOwn l.self.gauge l.seat
