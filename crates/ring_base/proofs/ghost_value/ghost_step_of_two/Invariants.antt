-- The present value.
use Rattle.ring_base.proofs.ghost_value.ghost_step_of_two.Given as goal

abbrev pub ghost-ghost_of : goal.ghost-ghost_of
ghost-ghost_of g a = g.step a.from.now.0.now.value a.from.now.1.now a.from.now.2.now
