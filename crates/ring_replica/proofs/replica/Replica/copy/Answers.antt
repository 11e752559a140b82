-- Each part is equal.
use Rattle.std.proofs.Common.{◌≡◌}
use Rattle.ring_replica.proofs.replica.Replica.copy.Goals as goal

pub invariant_of-result : goal.invariant_of-result
invariant_of-result g c =
    let replication = c.in_ok-replication.ensures.replication in
    let sessions = c.in_ok-replication.ensures.sessions in
    let tickets = c.in_ok-tickets.ensures.tickets in
    let leaving = c.in_ok-tickets.ensures.log_being_dropped in
    let history : c.in_ok-history.history.value ≡ c.self.inside.history.value = c.in_ok-history.ensures.cases in
    rw (replication, sessions, tickets, leaving, history) c.self.invariant

pub returns-clause-ok : goal.returns-clause-ok
returns-clause-ok g c =
    let replication = c.in_ok-replication.ensures.replication in
    let leaving = c.in_ok-tickets.ensures.log_being_dropped in
    let history : c.in_ok-history.history.value ≡ c.self.inside.history.value = c.in_ok-history.ensures.cases in
    rw (replication, leaving, history) c.self.view_is
