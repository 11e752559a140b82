use Rattle.ring_base.specs.RingOrder.{below_irrefl, below_trans, below_total, below_numbers}
use Rattle.ring_base.proofs.set_and_order_laws.ring_order_law.Goals as goal

pub returns-clause-irreflexive : goal.returns-clause-irreflexive
returns-clause-irreflexive c = below_irrefl

pub returns-clause-transitive : goal.returns-clause-transitive
returns-clause-transitive c = below_trans

pub returns-clause-total : goal.returns-clause-total
returns-clause-total c = below_total

pub returns-clause-numbers : goal.returns-clause-numbers
returns-clause-numbers c = below_numbers
