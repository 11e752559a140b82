-- The borrows live as long as the call.
use contract.BorrowLft.{⊑_meet, ⊑_static}
use Rattle.ring_world.proofs.frame_store.sent_frame_added.Goals as goal

pub ghost_step-requires : goal.ghost_step-requires
ghost_step-requires g c κs within =
    let history = within.0 in
    let frame = within.1 in
    (search (⊑_meet, ⊑_static, history) depth 60 fits 100000, search (⊑_meet, ⊑_static, frame) depth 200 fits 1000000)
