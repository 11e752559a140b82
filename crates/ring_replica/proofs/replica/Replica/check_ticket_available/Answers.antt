-- The tickets determine whether one may be given.
use Rattle.ring_replica.proofs.Replicas.{may-give, may-not}
use Rattle.ring_base.proofs.Results.{on-ok, if-err}
use Rattle.ring_replica.proofs.replica.Replica.check_ticket_available.Goals as goal

pub returns-clause-ok : goal.returns-clause-ok
returns-clause-ok g c = on-ok c.check.result _ _ (may-give c.self.invariant.kept c.self.view_is c.if-self.false) c.check.ensures.ok

pub returns-clause-err : goal.returns-clause-err
returns-clause-err g c =
    if-err c.check.result _ _ _ (may-not c.self.invariant.kept c.self.view_is c.if-self.false) c.check.ensures.full c.check.ensures.refused
