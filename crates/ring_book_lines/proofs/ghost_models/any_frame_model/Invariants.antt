-- The ghost value.
use Rattle.ring_book_lines.specs.StoredSteps.{placeholder_frame}
use Rattle.ring_book_lines.proofs.ghost_models.any_frame_model.Given as goal

abbrev pub ghost-ghost_of : goal.ghost-ghost_of
ghost-ghost_of g a = placeholder_frame
