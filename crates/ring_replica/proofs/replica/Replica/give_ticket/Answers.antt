-- One more ticket.
use Rattle.ring_replica.proofs.Replicas.{is-open, given-counted}
use Rattle.ring_replica.proofs.replica.Replica.give_ticket.Goals as goal

pub give_ticket-requires : goal.give_ticket-requires
give_ticket-requires g c = (is-open c.self.invariant.kept c.self.view_is c.requires.open).1

pub invariant_of-self : goal.invariant_of-self
invariant_of-self g c =
    given-counted c.self.invariant c.args.call c.has_adopted-runs.result c.record_call.ensures c.give_ticket.ensures.tickets c.history_after_ticket.ensures
