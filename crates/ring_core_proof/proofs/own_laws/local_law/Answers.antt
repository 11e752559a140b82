use Rattle.ring_core_proof.proofs.OwnEverywhere.{local_facts, local_everywhere}
use Rattle.ring_core_proof.proofs.own_laws.local_law.Goals as goal

pub returns-clause-core : goal.returns-clause-core
returns-clause-core g c = local_facts

pub returns-clause-world : goal.returns-clause-world
returns-clause-world g c = local_everywhere
