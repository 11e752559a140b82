-- The chosen ghost value.
use Rattle.ring_core_spec.specs.State.{formed}
use Rattle.ring_srp_state.specs.Histories.{history_of}
use Rattle.ring_srp_state.proofs.history.formed_history.Given as goal

abbrev pub ghost-ghost_of : goal.ghost-ghost_of
ghost-ghost_of g a = history_of (formed a.from.now.0.now.count a.from.now.1.now)
