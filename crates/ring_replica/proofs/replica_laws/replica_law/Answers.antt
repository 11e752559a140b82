use Rattle.std.proofs.Common.{refl}
use Rattle.ring_replica.proofs.Nodes.{step-is, refused-is, given-is}
use Rattle.ring_replica.proofs.replica_laws.replica_law.Goals as goal

pub returns-clause-opening : goal.returns-clause-opening
returns-clause-opening g c = λ group me. refl

pub returns-clause-step : goal.returns-clause-step
returns-clause-step g c = step-is g.O.Object.sequential

pub returns-clause-refused : goal.returns-clause-refused
returns-clause-refused g c = refused-is

pub returns-clause-given : goal.returns-clause-given
returns-clause-given g c = given-is

pub returns-clause-length : goal.returns-clause-length
returns-clause-length g c = λ n. refl

pub returns-clause-trimmed : goal.returns-clause-trimmed
returns-clause-trimmed g c = λ n. refl

pub returns-clause-committed : goal.returns-clause-committed
returns-clause-committed g c = λ n. refl

pub returns-clause-reply : goal.returns-clause-reply
returns-clause-reply g c = λ n ticket. refl
