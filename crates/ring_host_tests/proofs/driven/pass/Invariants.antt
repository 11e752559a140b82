use Rattle.ring_seat.specs.Seats.{IsAt}
use Rattle.ring_host_tests.proofs.driven.pass.Given as goal

abbrev pub invariant-loop : goal.invariant-loop
invariant-loop g l = IsAt l.host.gauge l.seat
