use Rattle.ring_chain_proof.proofs.HopsTakenOnce.{rounds_of_runs}
use Rattle.ring_chain_proof.proofs.laws.commit_rounds_law.Goals as goal

pub returns : goal.returns
returns g c = rounds_of_runs
