use Rattle.ring_chain_proof.proofs.FormedFacts.{formed_facts}
use Rattle.ring_chain_proof.proofs.laws.formed_facts_law.Goals as goal

pub returns : goal.returns
returns g c = formed_facts
