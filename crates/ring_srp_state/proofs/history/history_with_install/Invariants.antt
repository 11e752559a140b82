-- The chosen ghost value.
use Rattle.ring_srp_state.specs.Histories.{history_with_install}
use Rattle.ring_srp_state.proofs.history.history_with_install.Given as goal

abbrev pub ghost-ghost_step : goal.ghost-ghost_step
ghost-ghost_step g a = history_with_install
