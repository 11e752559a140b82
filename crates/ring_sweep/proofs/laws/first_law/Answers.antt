use Rattle.std.proofs.Common.{Some, None}
use Rattle.ring_sweep.proofs.Trying.{says}
use Rattle.ring_sweep.proofs.laws.first_law.Goals as goal

pub returns-clause-told : goal.returns-clause-told
returns-clause-told g c = λ group lines n u tried. says g.O.Object.sequential group lines n (Some u) tried

pub returns-clause-none : goal.returns-clause-none
returns-clause-none g c = λ group lines n k tried lt. says g.O.Object.sequential group lines n None tried k lt
