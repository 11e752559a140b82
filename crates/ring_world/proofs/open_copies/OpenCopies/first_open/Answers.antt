use Rattle.ring_world.proofs.PumpOpening.{takes_first}
use Rattle.ring_world.proofs.open_copies.OpenCopies.first_open.Goals as goal

pub returns : goal.returns
returns g c = takes_first _ c.close_first_copy.result _ c.close_first_copy.ensures.takes
