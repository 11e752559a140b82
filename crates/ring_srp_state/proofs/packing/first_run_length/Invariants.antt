-- The run's length is the number counted so far and that of the rest of the run.
use Rattle.ring_srp_state.proofs.QueueTaken.{IsCounted}
use Rattle.ring_srp_state.proofs.packing.first_run_length.Given as goal

abbrev pub invariant-loop-count : goal.invariant-loop-count
invariant-loop-count g l = IsCounted l.queue.items l.count l.left
