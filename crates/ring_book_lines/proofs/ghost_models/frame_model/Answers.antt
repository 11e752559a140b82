-- The borrow lives as long as the call.
use contract.BorrowLft.{⊑_meet, ⊑_static, ⊑_refl}
use Rattle.ring_book_lines.proofs.ghost_models.frame_model.Goals as goal

pub ghost_step-requires : goal.ghost_step-requires
ghost_step-requires g c κs within = (search (⊑_meet, ⊑_static, within.0) depth 60 fits 100000, search (⊑_meet, ⊑_static, ⊑_refl, within.1) depth 200 fits 1000000)
