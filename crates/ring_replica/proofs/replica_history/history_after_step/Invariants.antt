-- The new value.
use Rattle.ring_replica.specs.Replicas.{ghost_state_after_step}
use Rattle.ring_replica.proofs.replica_history.history_after_step.Given as goal

abbrev pub ghost-ghost_step : goal.ghost-ghost_step
ghost-ghost_step g a = λ ghost_state f. ghost_state_after_step ghost_state f.0.now.value f.1.now f.2.now
