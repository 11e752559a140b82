use Rattle.ring_core_proof.proofs.Ended.{have_ended}
use Rattle.ring_core_proof.proofs.laws.end_follows_wraps_law.Goals as goal

pub returns : goal.returns
returns g c = have_ended
