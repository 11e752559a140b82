-- The present value.
use Rattle.ring_base.proofs.ghost_value.ghost_now.Given as goal

abbrev pub ghost-ghost_of : goal.ghost-ghost_of
ghost-ghost_of g a = a.from.now.now
