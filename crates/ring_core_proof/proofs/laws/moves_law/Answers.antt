use Rattle.ring_core_proof.proofs.StepsAreMoves.{step_moves}
use Rattle.ring_core_proof.proofs.laws.moves_law.Goals as goal

pub returns : goal.returns
returns g c = step_moves
