use Rattle.ring_base.proofs.Lent.{lent}
use Rattle.ring_recover.proofs.history.with_message_last.Goals as goal

pub ghost_of-requires : goal.ghost_of-requires
ghost_of-requires g c κs within = (within.1.0, lent κs.1.1.0 κs.1.1.1.0 κs.1.1.1.1.0 g.row.M.lives g.row.M.lives within.0.0 within.0.1.0 within.1.1.0 within.1.1.0)
