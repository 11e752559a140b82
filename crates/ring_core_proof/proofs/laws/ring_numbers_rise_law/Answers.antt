use Rattle.ring_core_proof.proofs.Rises.{rings_fall}
use Rattle.ring_core_proof.proofs.laws.ring_numbers_rise_law.Goals as goal

pub returns : goal.returns
returns g c = rings_fall
