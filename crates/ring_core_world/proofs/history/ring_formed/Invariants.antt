-- The chosen ghost value.
use Rattle.std.proofs.Common.{true, []}
use Rattle.ring_core_world.proofs.history.ring_formed.Given as goal

abbrev pub ghost-ghost_of : goal.ghost-ghost_of
ghost-ghost_of g a = record { count = a.from.now.count; formed = true; events = [] }
