use Rattle.ring_core_proof.proofs.Causes.{caused}
use Rattle.ring_core_proof.proofs.laws.transition_carries_input_law.Goals as goal

pub returns : goal.returns
returns g c = caused
