use Rattle.ring_core_proof.proofs.Guards.{guarded}
use Rattle.ring_core_proof.proofs.laws.decision_law.Goals as goal

pub returns : goal.returns
returns g c = guarded
