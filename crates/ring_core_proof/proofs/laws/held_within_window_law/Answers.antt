use Rattle.ring_core_proof.proofs.WithinWindow.{held_within}
use Rattle.ring_core_proof.proofs.laws.held_within_window_law.Goals as goal

pub returns : goal.returns
returns g c = held_within
