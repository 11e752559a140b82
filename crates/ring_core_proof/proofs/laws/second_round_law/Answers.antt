use Rattle.ring_core_proof.proofs.Rounds.{all_rise, all_taken}
use Rattle.ring_core_proof.proofs.laws.second_round_law.Goals as goal

pub returns-clause-rings : goal.returns-clause-rings
returns-clause-rings g c = all_rise

pub returns-clause-taken : goal.returns-clause-taken
returns-clause-taken g c = all_taken
