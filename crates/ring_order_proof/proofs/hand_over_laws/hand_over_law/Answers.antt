use Rattle.ring_order_proof.proofs.DisciplinedWorlds.{own_keep, own_drop, own_on, lives_keep}
use Rattle.ring_order_proof.proofs.ConsistentRuns.{lives_on}
use Rattle.ring_order_proof.proofs.Between.{between_rules, between_on}
use Rattle.ring_order_proof.proofs.RunFacts.{node_is}
use Rattle.ring_order_proof.proofs.hand_over_laws.hand_over_law.Goals as goal

pub returns-clause-discipline : goal.returns-clause-discipline
returns-clause-discipline g c = own_keep g.O.Object.sequential

pub returns-clause-drops : goal.returns-clause-drops
returns-clause-drops g c = own_drop g.O.Object.sequential

pub returns-clause-goes_on : goal.returns-clause-goes_on
returns-clause-goes_on g c = own_on g.O.Object.sequential

pub returns-clause-rules : goal.returns-clause-rules
returns-clause-rules g c = lives_keep g.O.Object.sequential

pub returns-clause-whole_goes_on : goal.returns-clause-whole_goes_on
returns-clause-whole_goes_on g c = λ group before later i few. lives_on g.O.Object.sequential group few before later i

pub returns-clause-steps : goal.returns-clause-steps
returns-clause-steps g c = λ group events node input few low high may.
    let o = g.O.Object.sequential in
    let there = node_is o group events node low high in
    (between_rules o group events node input few there may, between_on o group events node input few there may)
