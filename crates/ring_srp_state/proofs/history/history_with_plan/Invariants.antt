-- The chosen ghost value.
use Rattle.ring_srp_state.specs.Histories.{history_with_plan}
use Rattle.ring_srp_state.proofs.history.history_with_plan.Given as goal

abbrev pub ghost-ghost_step : goal.ghost-ghost_step
ghost-ghost_step g a = λ h f. history_with_plan h f.0.now.value f.1 f.2
