-- The stored values after the committed places are dropped.
use Rattle.std.proofs.Common.{refl, ap, ◌∙◌}
use Rattle.std.specs.Prelude.{is_some}
use Rattle.ring_log.specs.Logs.{Log, is_due_to_trim}
use Rattle.ring_log.specs.Epochs.{epochs_with_trim}
use Rattle.ring_node_spec.specs.Nodes.{is_closed}
use Rattle.ring_replication.specs.Replications.{Replication}
use Rattle.ring_replication.proofs.ReplicationSteps.{kept-epochs_with_trim, kept-as, ripe-more}
use Rattle.ring_replication.proofs.replication.Replication.trim.Goals as goal

pub invariant_of-self-2 : goal.invariant_of-self-2
invariant_of-self-2 g c = λ consistent.
    let s = c.self.inside in
    let some = ap is_some c.in-Some.is in
    let closed = ap (λ (v : Replication _). is_closed v.group v.epochs) c.self.view_is ∙ c.requires.closed some in
    let ripe = ap (λ (v : Replication _). is_due_to_trim v.held.log) c.self.view_is ∙ c.requires.ripe some in
    kept-as s.fixed _ _ _ _ s.ring s.stage s.stage s.mark s.watermarks.items s.watermarks.items
    (kept-epochs_with_trim s.fixed s.epochs.value s.held s.ring s.stage s.mark s.watermarks.items c.in-Some.snapshot (c.self.invariant consistent) closed
    (ripe-more s.held.log ripe))
    (c.history_with_trim.ensures ∙ ap (λ n. epochs_with_trim n s.epochs.value) (c.committed_length.ensures ∙ ap (λ (l : Log _). l.committed) c.in_ok-log.ensures.dropped))
    c.in_ok-log.ensures.ok refl refl
