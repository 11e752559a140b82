-- The new value.
use Rattle.ring_log.specs.Epochs.{epochs_with_message}
use Rattle.ring_replication.proofs.epoch_history.history_with_message.Given as goal

abbrev pub ghost-ghost_step : goal.ghost-ghost_step
ghost-ghost_step g a = λ epochs f. epochs_with_message f.now epochs
