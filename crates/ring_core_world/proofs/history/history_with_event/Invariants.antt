-- The chosen ghost value.
use Rattle.ring_core_world.specs.Running.{more}
use Rattle.ring_core_world.proofs.history.history_with_event.Given as goal

abbrev pub ghost-ghost_step : goal.ghost-ghost_step
ghost-ghost_step g a = λ r event. more r event
