-- A copied ghost value is equal to the original.
use Rattle.std.proofs.Common.{sym}
use Rattle.ring_srp.proofs.srp.copied_core.Goals as goal

pub returns-in_ok-clone-in-Stopped : goal.returns-in_ok-clone-in-Stopped
returns-in_ok-clone-in-Stopped g c = rw c.in_ok-clone-in-Stopped.ensures.cases (sym c.in-Stopped.is)
