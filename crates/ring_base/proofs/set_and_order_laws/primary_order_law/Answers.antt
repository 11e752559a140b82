use Rattle.ring_base.specs.RingOrder.{primary_below_irrefl, primary_below_trans, primary_below_total}
use Rattle.ring_base.proofs.set_and_order_laws.primary_order_law.Goals as goal

pub returns-clause-irreflexive : goal.returns-clause-irreflexive
returns-clause-irreflexive c = primary_below_irrefl

pub returns-clause-transitive : goal.returns-clause-transitive
returns-clause-transitive c = primary_below_trans

pub returns-clause-total : goal.returns-clause-total
returns-clause-total c = primary_below_total
