-- The chosen ghost value.
use Rattle.std.proofs.Common.{[]}
use Rattle.ring_srp_state.proofs.history.empty_ghost_list.Given as goal

abbrev pub ghost-ghost_of : goal.ghost-ghost_of
ghost-ghost_of g a = []
