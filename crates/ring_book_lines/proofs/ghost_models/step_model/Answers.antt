-- The borrow lives as long as the call.
use contract.BorrowLft.{⊑_meet, ⊑_static}
use Rattle.ring_book_lines.proofs.StepLifetimes.{step_lives}
use Rattle.ring_book_lines.proofs.ghost_models.step_model.Goals as goal

pub ghost_step-requires : goal.ghost_step-requires
ghost_step-requires g c κs within = (
  search (⊑_meet, ⊑_static, within.0) depth 60 fits 100000,
  step_lives g.row.A g.A.Allocator κs.1.1.1.0 within.1,
)
