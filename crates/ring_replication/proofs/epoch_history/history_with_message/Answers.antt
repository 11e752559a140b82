-- What is borrowed lives as long as the call.
use contract.BorrowLft.{⊑_meet, ⊑_static, ⊑_refl}
use Rattle.ring_replication.proofs.epoch_history.history_with_message.Goals as goal

pub ghost_step-requires : goal.ghost_step-requires
ghost_step-requires g c κs within = (search (⊑_meet, ⊑_static, within.0) depth 60 fits 100000, search (⊑_meet, ⊑_static, ⊑_refl, within.1) depth 60 fits 100000)
