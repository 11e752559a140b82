-- The borrowed values live as long as the call.
use contract.BorrowLft.{⊑_meet, ⊑_static, ⊑_refl}
use Rattle.ring_base.proofs.ghost_value.ghost_step_of_two.Goals as goal

pub ghost_of-requires : goal.ghost_of-requires
ghost_of-requires g c κs within = (within.1.0, search (⊑_meet, ⊑_static, ⊑_refl) depth 60 fits 100000)
