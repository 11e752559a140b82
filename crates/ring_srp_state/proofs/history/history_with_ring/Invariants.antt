-- The chosen ghost value.
use Rattle.ring_srp_state.specs.Histories.{with_ring}
use Rattle.ring_srp_state.proofs.history.history_with_ring.Given as goal

abbrev pub ghost-ghost_step : goal.ghost-ghost_step
ghost-ghost_step g a = λ h f. with_ring h f.0 f.1.now
