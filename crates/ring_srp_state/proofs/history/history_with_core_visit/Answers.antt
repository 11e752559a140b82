-- The borrows live as long as the call.
use contract.BorrowLft.{⊑_meet, ⊑_static, ⊑_refl}
use Rattle.ring_srp_state.proofs.history.history_with_core_visit.Goals as goal

pub ghost_step-requires : goal.ghost_step-requires
ghost_step-requires g c κs within = search (⊑_meet, ⊑_static, ⊑_refl) depth 60 fits 100000
