use Rattle.ring_log_proof.proofs.Heads.{text-heads, text-parts}
use Rattle.ring_log_proof.proofs.Moment.{views-all}
use Rattle.ring_log_proof.proofs.laws.truthful_heads_law.Goals as goal

pub returns-clause-heads : goal.returns-clause-heads
returns-clause-heads g c = λ group m r.
    text-heads group m.node_epochs m.members m.text m.facts m.discipline r (views-all group m.node_epochs m.members m.text m.facts m.discipline r.seq)

pub returns-clause-parts : goal.returns-clause-parts
returns-clause-parts g c = λ group m r.
    text-parts group m.node_epochs m.members m.text m.facts m.discipline r (views-all group m.node_epochs m.members m.text m.facts m.discipline r.seq)
