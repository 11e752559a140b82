use Rattle.ring_log_proof.proofs.Moment.{settled-fronts, settled-stays}
use Rattle.ring_log_proof.proofs.laws.settled_law.Goals as goal

pub returns-clause-fronts : goal.returns-clause-fronts
returns-clause-fronts g c = λ group m. settled-fronts group m.node_epochs m.members m.text m.facts m.discipline

pub returns-clause-stays : goal.returns-clause-stays
returns-clause-stays g c = λ group m n xs on settled. settled-stays group m n on xs settled
