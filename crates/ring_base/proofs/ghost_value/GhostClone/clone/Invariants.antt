-- A copy has the value of the original.
use Rattle.ring_base.proofs.ghost_value.GhostClone.clone.Given as goal

abbrev pub ghost-ghost_of : goal.ghost-ghost_of
ghost-ghost_of g a = a.from.now.now.value
