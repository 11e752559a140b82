use Rattle.ring_base.specs.Prefixes.{prefix_self, prefix_trans, prefix_shorter, prefix_length, prefix_whole, prefix_get}
use Rattle.ring_base.proofs.set_and_order_laws.prefix_law.Goals as goal

pub returns-clause-reflexive : goal.returns-clause-reflexive
returns-clause-reflexive g c = prefix_self

pub returns-clause-transitive : goal.returns-clause-transitive
returns-clause-transitive g c = prefix_trans

pub returns-clause-comparable : goal.returns-clause-comparable
returns-clause-comparable g c = prefix_shorter

pub returns-clause-lengths : goal.returns-clause-lengths
returns-clause-lengths g c = prefix_length

pub returns-clause-whole : goal.returns-clause-whole
returns-clause-whole g c = prefix_whole

pub returns-clause-places : goal.returns-clause-places
returns-clause-places g c = prefix_get
