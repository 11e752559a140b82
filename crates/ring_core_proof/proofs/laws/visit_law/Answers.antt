use Rattle.ring_core_proof.proofs.VisitsByRules.{all_turned}
use Rattle.ring_core_proof.proofs.Fresh.{all_made}
use Rattle.ring_core_proof.proofs.laws.visit_law.Goals as goal

pub returns-clause-turns : goal.returns-clause-turns
returns-clause-turns g c = all_turned

pub returns-clause-fresh : goal.returns-clause-fresh
returns-clause-fresh g c = all_made
