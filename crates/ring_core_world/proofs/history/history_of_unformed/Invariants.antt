-- The chosen ghost value.
use Rattle.ring_core_world.specs.Running.{empty_run}
use Rattle.ring_core_world.proofs.history.history_of_unformed.Given as goal

abbrev pub ghost-ghost_of : goal.ghost-ghost_of
ghost-ghost_of g a = empty_run a.from.now.count
