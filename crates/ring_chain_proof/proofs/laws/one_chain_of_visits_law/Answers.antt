use Rattle.ring_chain_proof.proofs.ChainInRuns.{unformed_chains, formed_chains}
use Rattle.ring_chain_proof.proofs.laws.one_chain_of_visits_law.Goals as goal

pub returns-clause-unformed : goal.returns-clause-unformed
returns-clause-unformed g c = unformed_chains

pub returns-clause-formed : goal.returns-clause-formed
returns-clause-formed g c = formed_chains
