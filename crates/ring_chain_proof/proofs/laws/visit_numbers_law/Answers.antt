use Rattle.ring_chain_proof.proofs.Spacing.{unformed_in_turn, formed_in_turn}
use Rattle.ring_chain_proof.proofs.laws.visit_numbers_law.Goals as goal

pub returns-clause-unformed : goal.returns-clause-unformed
returns-clause-unformed g c = unformed_in_turn

pub returns-clause-formed : goal.returns-clause-formed
returns-clause-formed g c = formed_in_turn
