-- The present value.
use Rattle.ring_base.proofs.ghost_value.ghost_step.Given as goal

abbrev pub ghost-ghost_of : goal.ghost-ghost_of
ghost-ghost_of g a = g.step a.from.now.0.now.value a.from.now.1.now
