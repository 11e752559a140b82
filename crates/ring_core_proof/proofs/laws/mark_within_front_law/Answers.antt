use Rattle.ring_core_proof.proofs.WithinWindow.{marks_within}
use Rattle.ring_core_proof.proofs.laws.mark_within_front_law.Goals as goal

pub returns : goal.returns
returns g c = marks_within
