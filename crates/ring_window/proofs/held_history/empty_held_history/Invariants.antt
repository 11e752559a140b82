use Rattle.std.proofs.Common.{[]}
use Rattle.ring_window.proofs.held_history.empty_held_history.Given as goal

abbrev pub ghost-ghost_of : goal.ghost-ghost_of
ghost-ghost_of g a = []
