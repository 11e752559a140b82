-- The new value.
use Rattle.ring_replica.specs.Replicas.{ghost_state_opening}
use Rattle.ring_replica.proofs.replica_history.history_opening.Given as goal

abbrev pub ghost-ghost_of : goal.ghost-ghost_of
ghost-ghost_of g a = ghost_state_opening a.from.now
