-- A snapshot is taken only if no exchange is open and the log is due to be trimmed; otherwise nothing is dropped.
use Rattle.std.proofs.Common.{◌≡◌, ap, sym, ◌∙◌, subst}
use Rattle.std.specs.Prelude.{IfOk, OnOk, is_some, option_map}
use Rattle.ring_log.specs.Logs.{committed_log, is_due_to_trim}
use Rattle.ring_replication.specs.NodeSpec.{is_closed}
use Rattle.ring_replication.specs.Replications.{HeldLog, replication_trimmed}
use Rattle.ring_replica.specs.Replicas.{snapshot_if_due}
use Rattle.ring_replica.proofs.ReplicaStepEnds.{ripe-if, not-ripe}
use Rattle.ring_replica.proofs.replica.trim_if_due.Goals as goal

pub trim-requires-clause-closed : goal.trim-requires-clause-closed
trim-requires-clause-closed g c = λ some.
    let object = g.O.Object.sequential in
    let closed = c.is_exchange_closed-closed.ensures c.requires.consistent in
    let is = c.in_ok-snapshot.ensures.snapshot in
    sym closed ∙ (ripe-if object c.is_exchange_closed-closed.result c.log-2.result.now c.args.sessions.now (ap is_some (sym is) ∙ some)).0

pub trim-requires-clause-ripe : goal.trim-requires-clause-ripe
trim-requires-clause-ripe g c = λ some.
    let object = g.O.Object.sequential in
    let log = c.log-2.ensures ∙ ap (λ (h : HeldLog _). h.log) c.stored_log-2.ensures.held in
    let is = c.in_ok-snapshot.ensures.snapshot in
    ap is_due_to_trim (sym log) ∙ (ripe-if object c.is_exchange_closed-closed.result c.log-2.result.now c.args.sessions.now (ap is_some (sym is) ∙ some)).1

pub returns-clause-dropped : goal.returns-clause-dropped
returns-clause-dropped g c =
    let object = g.O.Object.sequential in
    let replication = c.args.replication.now in
    let log = c.log-2.ensures ∙ ap (λ (h : HeldLog _). h.log) c.stored_log-2.ensures.held in
    let is = c.in_ok-snapshot.ensures.snapshot
    ∙ ap (λ b. snapshot_if_due object b c.log-2.result.now c.args.sessions.now) (c.is_exchange_closed-closed.ensures c.requires.consistent)
    ∙ ap (λ l. snapshot_if_due object (is_closed replication.group replication.epochs) l c.args.sessions.now) log in
    c.in_ok-log_being_dropped.ensures.dropped ∙ ap (option_map (λ _. committed_log replication.held.log)) is

pub returns-clause-ok : goal.returns-clause-ok
returns-clause-ok g c =
    let object = g.O.Object.sequential in
    let replication = c.args.replication.now in
    let log = c.log-2.ensures ∙ ap (λ (h : HeldLog _). h.log) c.stored_log-2.ensures.held in
    let is = c.in_ok-snapshot.ensures.snapshot
    ∙ ap (λ b. snapshot_if_due object b c.log-2.result.now c.args.sessions.now) (c.is_exchange_closed-closed.ensures c.requires.consistent)
    ∙ ap (λ l. snapshot_if_due object (is_closed replication.group replication.epochs) l c.args.sessions.now) log in
    c.in_ok-log_being_dropped.ensures.ok ∙ ap (replication_trimmed replication) is
