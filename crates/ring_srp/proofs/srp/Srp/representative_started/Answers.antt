-- No installation is due once the first token was visited.
use Rattle.std.proofs.Common.{ap}
use Rattle.ring_core_spec.specs.State.{Core}
use Rattle.ring_core_spec.specs.Giving.{may_install}
use Rattle.ring_srp.proofs.srp.Srp.representative_started.Goals as goal

pub from_running_core-requires : goal.from_running_core-requires
from_running_core-requires g c = ap (λ (x : Core g.row.A.Denot). may_install x) c.in_ok-running_core-2.ensures.core
