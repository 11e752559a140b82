use Rattle.ring_core_proof.proofs.Agrees.{all_same}
use Rattle.ring_core_proof.proofs.laws.agreement_law.Goals as goal

pub returns : goal.returns
returns g c = all_same
