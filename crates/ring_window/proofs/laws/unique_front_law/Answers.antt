use Rattle.ring_window.proofs.HeldFront.{front_is, front_only}
use Rattle.ring_window.proofs.laws.unique_front_law.Goals as goal

pub returns-clause-is : goal.returns-clause-is
returns-clause-is g c = front_is

pub returns-clause-only : goal.returns-clause-only
returns-clause-only g c = front_only
