-- The chosen ghost value.
use Rattle.std.proofs.Common.{◌∷◌}
use Rattle.ring_srp_state.proofs.history.ghost_list_with_first.Given as goal

abbrev pub ghost-ghost_of : goal.ghost-ghost_of
ghost-ghost_of g a = a.from.now.1.now ∷ a.from.now.0.now.value
