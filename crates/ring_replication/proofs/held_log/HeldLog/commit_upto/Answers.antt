-- The reported committed places remain a prefix when more is committed.
use Rattle.std.proofs.Common.{subst}
use Rattle.ring_base.specs.Prefixes.{IsListPrefix}
use Rattle.ring_log.specs.Logs.{committed_calls}
use Rattle.ring_replication.specs.Replications.{HeldLog, reported_log}
use Rattle.ring_replication.proofs.LogChanges.{front-raised}
use Rattle.ring_replication.proofs.held_log.HeldLog.commit_upto.Goals as goal

pub returns-clause-front : goal.returns-clause-front
returns-clause-front g c =
    let s = c.self.inside in
    let old : HeldLog _ = record { log = s.log; before = s.before; snapshot = s.snapshot } in
    let now : HeldLog _ = record old { log = c.commit_upto.new.self } in
    subst (λ (h : HeldLog _). IsListPrefix (committed_calls (reported_log h)) (committed_calls (reported_log now))) c.self.view_is
    (front-raised s.before s.log c.commit_upto.new.self c.args.n c.commit_upto.ensures)
