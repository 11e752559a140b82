-- The ghost value.
use Rattle.ring_book_lines.proofs.ghost_models.frame_model.Given as goal

abbrev pub ghost-ghost_step : goal.ghost-ghost_step
ghost-ghost_step g a = λ old x. x.now
