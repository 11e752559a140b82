-- The new value.
use Rattle.ring_log.specs.Epochs.{history_opening_of}
use Rattle.ring_replication.proofs.epoch_history.history_opening_of.Given as goal

abbrev pub ghost-ghost_of : goal.ghost-ghost_of
ghost-ghost_of g a = history_opening_of a.from.now
