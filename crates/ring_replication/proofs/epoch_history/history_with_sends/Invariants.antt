-- The new value.
use Rattle.ring_log.specs.Epochs.{epochs_with_sends}
use Rattle.ring_replication.proofs.epoch_history.history_with_sends.Given as goal

abbrev pub ghost-ghost_step : goal.ghost-ghost_step
ghost-ghost_step g a = λ epochs f. epochs_with_sends f.now.items epochs
