use Rattle.ring_core_proof.proofs.LeftRings.{left_stays}
use Rattle.ring_core_proof.proofs.own_laws.left_ring_unchanged_law.Goals as goal

pub returns : goal.returns
returns g c = left_stays
