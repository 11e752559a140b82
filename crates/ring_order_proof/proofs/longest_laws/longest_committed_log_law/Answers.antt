use Rattle.std.proofs.Common.{inl, inr}
use Rattle.ring_order_proof.proofs.LongestCommitted.{longest-is, taken-longest, order-longest}
use Rattle.ring_order_proof.proofs.longest_laws.longest_committed_log_law.Goals as goal

pub returns-clause-takes : goal.returns-clause-takes
returns-clause-takes g c = λ group events node few low high. taken-longest g.O.Object.sequential group few events node low high

pub returns-clause-some : goal.returns-clause-some
returns-clause-some g c = λ group events few.
    elim ((longest-is g.O.Object.sequential group few events).some) [
      | inl e ↦ inl e
      | inr j ↦ inr (j.node, j.low, j.high, j.log_is)
    ]

pub returns-clause-order : goal.returns-clause-order
returns-clause-order g c = λ group events few. order-longest g.O.Object.sequential group few events
