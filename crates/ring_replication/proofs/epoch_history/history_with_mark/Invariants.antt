-- The new value.
use Rattle.ring_log.specs.Epochs.{epochs_with_mark}
use Rattle.ring_replication.proofs.epoch_history.history_with_mark.Given as goal

abbrev pub ghost-ghost_step : goal.ghost-ghost_step
ghost-ghost_step g a = λ epochs n. epochs_with_mark n epochs
