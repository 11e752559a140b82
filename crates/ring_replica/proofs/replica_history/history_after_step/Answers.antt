-- What is borrowed lives as long as the call.
use contract.BorrowLft.{⊑_meet, ⊑_static, ⊑_refl}
use Rattle.ring_replica.proofs.replica_history.history_after_step.Goals as goal

pub ghost_step-requires : goal.ghost_step-requires
ghost_step-requires g c κs within = search (⊑_meet, ⊑_static, ⊑_refl) depth 60 fits 100000
