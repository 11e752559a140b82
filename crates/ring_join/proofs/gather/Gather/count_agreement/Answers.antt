-- The join is counted: it is from a processor, and has the node's sets.
use Rattle.std.proofs.Common.{refl, ap, ◌≡◌, ◌∙◌, true}
use Rattle.ring_join.specs.Gathering.{has_same_sets}
use Rattle.ring_join.specs.Gatherers.{Gatherer, gathering_of}
use Rattle.ring_join.proofs.JoinCounted.{counted_more}
use Rattle.ring_join.proofs.gather.Gather.count_agreement.Goals as goal

pub invariant_of-self : goal.invariant_of-self
invariant_of-self c =
    let same : has_same_sets (gathering_of c.self.inside.proc_set c.self.inside.fail_set c.self.inside.counted_joins.value)
    c.args.join.now ≡ true = ap (λ (g : Gatherer). has_same_sets g.gathering c.args.join.now) c.self.view_is
    ∙ c.requires in
    rw (c.ghost_of-counted_joins.ensures, c.max-self-inside.ensures, c.union-self-inside.ensures.value, c.singleton.ensures.value)
    (counted_more _ c.args.join.now _ _ ((c.singleton.ensures.members _).1 refl).0 same c.self.invariant)
