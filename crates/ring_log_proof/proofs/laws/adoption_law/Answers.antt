use Rattle.std.proofs.Common.{refl}
use Rattle.ring_log_proof.proofs.Moment.{adopted-base, adopted-first, keeps-all}
use Rattle.ring_log_proof.proofs.laws.adoption_law.Goals as goal

pub returns-clause-base : goal.returns-clause-base
returns-clause-base g c = λ group m p s older whole there exch.
    adopted-base group m.node_epochs m.members m.text m.facts m.discipline p s.ring (record { epoch = s; older = older; there = there; ring = refl }) whole exch

pub returns-clause-first : goal.returns-clause-first
returns-clause-first g c = λ group m p s older whole w there exch wants.
    adopted-first group m.node_epochs m.members m.text m.facts m.discipline p s.ring (record { epoch = s; older = older; there = there; ring = refl }) whole w
    exch wants

pub returns-clause-committed : goal.returns-clause-committed
returns-clause-committed g c = λ group m. keeps-all group m.node_epochs m.members m.text m.facts m.discipline
