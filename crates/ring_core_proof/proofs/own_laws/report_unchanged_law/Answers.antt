use Rattle.ring_core_proof.proofs.LeftRings.{between_stays}
use Rattle.ring_core_proof.proofs.own_laws.report_unchanged_law.Goals as goal

pub returns : goal.returns
returns g c = between_stays
