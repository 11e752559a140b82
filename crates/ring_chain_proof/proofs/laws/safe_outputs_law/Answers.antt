use Rattle.ring_chain_proof.proofs.SafeOutputs.{unformed_told}
use Rattle.ring_chain_proof.proofs.OnlyRing.{formed_of_formed}
use Rattle.ring_chain_proof.proofs.laws.safe_outputs_law.Goals as goal

pub returns-clause-unformed : goal.returns-clause-unformed
returns-clause-unformed g c = unformed_told

pub returns-clause-formed : goal.returns-clause-formed
returns-clause-formed g c = formed_of_formed
