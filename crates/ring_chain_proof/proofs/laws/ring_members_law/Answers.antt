use Rattle.ring_chain_proof.proofs.ChainInRuns.{shared_rings}
use Rattle.ring_chain_proof.proofs.TakingPart.{unformed_parts, unformed_same_members}
use Rattle.ring_chain_proof.proofs.OnlyRing.{formed_rings}
use Rattle.ring_chain_proof.proofs.laws.ring_members_law.Goals as goal

pub returns-clause-shared : goal.returns-clause-shared
returns-clause-shared g c = shared_rings

pub returns-clause-same : goal.returns-clause-same
returns-clause-same g c = unformed_same_members

pub returns-clause-parts : goal.returns-clause-parts
returns-clause-parts g c = unformed_parts

pub returns-clause-formed : goal.returns-clause-formed
returns-clause-formed g c = formed_rings
