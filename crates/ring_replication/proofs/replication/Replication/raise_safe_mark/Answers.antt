-- The stored values after the safe mark rises.
use Rattle.std.proofs.Common.{refl, ap, ◌∙◌, subst}
use Rattle.ring_log.specs.KnownLog.{known_log_of}
use Rattle.ring_log.specs.Epochs.{epochs_with_mark}
use Rattle.ring_replication.specs.Replications.{Replication, is_risen, IsHeldLogContinued}
use Rattle.ring_replication.proofs.ReplicationSteps.{kept-epochs_with_mark, kept-as, goes-as}
use Rattle.ring_replication.proofs.replication.Replication.raise_safe_mark.Goals as goal

pub invariant_of-self : goal.invariant_of-self
invariant_of-self g c = λ consistent.
    kept-as c.self.inside.fixed _ _ _ _ c.self.inside.ring _ _ c.args.upto _ _
    (kept-epochs_with_mark c.self.inside.fixed c.self.inside.epochs.value c.self.inside.held c.self.inside.ring c.self.inside.stage
    c.self.inside.mark c.self.inside.watermarks.items
    c.args.upto (c.self.invariant consistent) (ap (λ (v : Replication _). is_risen v.epochs c.args.upto) c.self.view_is ∙ c.requires.risen)).0
    c.history_with_mark-epochs.ensures c.commit_covered.ensures.held refl c.commit_covered.ensures.watermarks

pub returns-clause-onward : goal.returns-clause-onward
returns-clause-onward g c =
    let s = c.self.inside in
    let k = c.self.invariant (ap (λ (v : Replication _). v.consistent) c.self.view_is ∙ c.requires.consistent) in
    subst (λ (v : Replication _). IsHeldLogContinued v.held c.commit_covered.new.held (known_log_of v.group v.epochs) (known_log_of s.fixed c.history_with_mark-epochs.result.value)) c.self.view_is
    (goes-as s.fixed s.held _ c.commit_covered.new.held (known_log_of s.fixed s.epochs.value) (epochs_with_mark c.args.upto s.epochs.value) c.history_with_mark-epochs.result.value
    (kept-epochs_with_mark s.fixed s.epochs.value s.held s.ring s.stage s.mark s.watermarks.items c.args.upto k
    (ap (λ (v : Replication _). is_risen v.epochs c.args.upto) c.self.view_is ∙ c.requires.risen)).1
    c.commit_covered.ensures.held c.history_with_mark-epochs.ensures)
