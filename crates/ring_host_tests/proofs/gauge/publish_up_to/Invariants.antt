use Rattle.ring_seat.specs.Seats.{IsOwn}
use Rattle.ring_host_tests.proofs.gauge.publish_up_to.Given as goal

-- The seat stays a node's own.
abbrev pub invariant-loop-length : goal.invariant-loop-length
invariant-loop-length l = IsOwn l.gauge l.seat
