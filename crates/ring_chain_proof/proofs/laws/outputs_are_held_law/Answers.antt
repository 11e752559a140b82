use Rattle.ring_chain_proof.proofs.Formed.{agreed_ascend}
use Rattle.ring_chain_proof.proofs.Tells.{unformed_held, formed_held}
use Rattle.ring_chain_proof.proofs.laws.outputs_are_held_law.Goals as goal

pub returns-clause-unformed : goal.returns-clause-unformed
returns-clause-unformed g c = unformed_held

pub returns-clause-formed : goal.returns-clause-formed
returns-clause-formed g c = formed_held

pub returns-clause-numbers : goal.returns-clause-numbers
returns-clause-numbers g c = agreed_ascend
