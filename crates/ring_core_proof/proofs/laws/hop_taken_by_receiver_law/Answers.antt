use Rattle.ring_core_proof.proofs.Guards.{one_position}
use Rattle.ring_core_proof.proofs.laws.hop_taken_by_receiver_law.Goals as goal

pub returns : goal.returns
returns g c = one_position
