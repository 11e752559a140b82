use Rattle.ring_chain_proof.proofs.ChainInRuns.{unformed_text, formed_text, unformed_numbered, formed_numbered}
use Rattle.ring_chain_proof.proofs.laws.one_text_law.Goals as goal

pub returns-clause-unformed : goal.returns-clause-unformed
returns-clause-unformed g c = unformed_text

pub returns-clause-formed : goal.returns-clause-formed
returns-clause-formed g c = formed_text

pub returns-clause-numbered : goal.returns-clause-numbered
returns-clause-numbered g c = unformed_numbered

pub returns-clause-numbered_formed : goal.returns-clause-numbered_formed
returns-clause-numbered_formed g c = formed_numbered
