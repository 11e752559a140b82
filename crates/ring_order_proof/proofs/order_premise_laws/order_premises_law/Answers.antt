use Rattle.ring_order_proof.proofs.RunFacts.{all_facts, node_is}
use Rattle.ring_order_proof.proofs.Between.{between_facts}
use Rattle.ring_order_proof.proofs.order_premise_laws.order_premises_law.Goals as goal

pub returns-clause-runs : goal.returns-clause-runs
returns-clause-runs g c = λ group events few. all_facts g.O.Object.sequential group events few

pub returns-clause-steps : goal.returns-clause-steps
returns-clause-steps g c = λ group events node input few low high may.
    let object = g.O.Object.sequential in
    between_facts object group events node input few (node_is object group events node low high) may
