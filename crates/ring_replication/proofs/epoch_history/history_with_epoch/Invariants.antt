-- The new value.
use Rattle.std.proofs.Common.{◌∷◌}
use Rattle.ring_log.specs.Epochs.{epoch_opening}
use Rattle.ring_replication.proofs.epoch_history.history_with_epoch.Given as goal

abbrev pub ghost-ghost_step : goal.ghost-ghost_step
ghost-ghost_step g a = λ epochs f. epoch_opening f.0 f.1 ∷ epochs
