-- The borrows live as long as the call.
use contract.BorrowLft.{⊑_meet, ⊑_static}
use Rattle.ring_core_world.proofs.history.history_with_event.Goals as goal

pub ghost_step-requires : goal.ghost_step-requires
ghost_step-requires g c κs within =
    let history = within.0 in
    let event = within.1 in
    (search (⊑_meet, ⊑_static, history) depth 60 fits 100000, search (⊑_meet, ⊑_static, event) depth 200 fits 1000000)
