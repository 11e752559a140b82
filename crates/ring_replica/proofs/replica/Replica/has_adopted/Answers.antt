-- The newest adopted ring is the log's last primary.
use Rattle.std.proofs.Common.{ap, ◌∙◌}
use Rattle.ring_log.specs.Logs.{Log}
use Rattle.ring_replication.specs.Replications.{HeldLog}
use Rattle.ring_replica.specs.Replicas.{is_running_some}
use Rattle.ring_replica.proofs.Replicas.{last-is}
use Rattle.ring_replica.proofs.replica.Replica.has_adopted.Goals as goal

pub returns : goal.returns
returns g c =
    c.is_last_primary_running.ensures
    ∙ ap (is_running_some c.args.running.now) (c.last_primary.ensures
    ∙ ap (λ (l : Log _). l.last) (c.log.ensures ∙ ap (λ (h : HeldLog _). h.log) c.stored_log.ensures.held)
    ∙ last-is c.self.invariant.kept c.self.view_is c.requires.done c.requires.runs c.stored_log.ensures.log)
