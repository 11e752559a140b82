use Rattle.std.proofs.Common.{ap, rules}
use Rattle.std.proofs.lemmas.Iterator.Consumers.{YieldsList-from_first}
use Rattle.std.proofs.lemmas.Iterator.Search.{all_from_yields_List}
use Rattle.ring_base.specs.Processors.{has, elements}
use Rattle.ring_recover.proofs.ends.has_all_members.Goals as goal

pub returns : goal.returns
returns c = all_from_yields_List (has c.args.those) _ _ _ c.all.ensures.ran (YieldsList-from_first
    (λ x. x) elements (elements c.args.members) (ap elements c.iter.ensures)) (λ x b q k. search rules)
