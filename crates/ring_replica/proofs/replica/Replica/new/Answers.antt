-- Nothing is committed at the opening.
use Rattle.ring_replica.proofs.Replicas.{history_opening-counted}
use Rattle.ring_replica.proofs.replica.Replica.new.Goals as goal

pub invariant_of-result : goal.invariant_of-result
invariant_of-result g c =
    history_opening-counted g.O.Object.sequential c.args.fixed c.args.me c.new-3.result c.in_ok-new-2.field-0 c.in_ok-new.field-0 c.history_opening.result.value c.new-3.ensures
    c.in_ok-new-2.ensures.ok c.in_ok-new.ensures.ok c.history_opening.ensures
