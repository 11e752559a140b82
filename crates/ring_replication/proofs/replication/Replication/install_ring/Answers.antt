-- The stored values after a ring is entered.
use Rattle.std.proofs.Common.{◌∷◌, ◌++◌, refl, ap, sym, ◌∙◌, subst}
use Rattle.ring_log.specs.Logs.{head_of}
use Rattle.ring_log.specs.Epochs.{epoch_opening}
use Rattle.ring_log.specs.KnownLog.{known_log_of, is_known_log_sound}
use Rattle.ring_node_spec.specs.DueSends.{due_at_regular}
use Rattle.ring_replication.specs.Replications.{Replication, IsHeldLogContinued}
use Rattle.ring_replication.proofs.ReplicationSteps.{kept-enters, kept-as, known-epochs, goes-as}
use Rattle.ring_replication.proofs.InstallDueSends.{due-primary, due-apart}
use Rattle.ring_replication.proofs.replication.Replication.install_ring.Goals as goal
use Rattle.ring_replication.proofs.replication.Replication.install_ring.Goals.{then-is_primary+in_ok-push, else-is_primary}

pub invariant_of-self : goal.invariant_of-self
invariant_of-self g c = λ consistent.
    let k = c.self.invariant consistent in
    kept-as c.self.inside.fixed _ _ _ _ c.args.ring _ _ 0 _ _
    (kept-enters c.self.inside.fixed c.self.inside.epochs.value c.self.inside.held c.args.ring c.args.members k.sound (known-epochs k) k.logged k.restored).0
    c.history_with_epoch.ensures refl c.opening_stage.ensures c.clear.ensures.items

pub returns-clause-sound : goal.returns-clause-sound
returns-clause-sound g c =
    let s = c.self.inside in
    let k = c.self.invariant (ap (λ (v : Replication _). v.consistent) c.self.view_is ∙ c.requires.consistent) in
    sym (ap (λ (v : Replication _). is_known_log_sound v.group (epoch_opening c.args.ring c.args.members ∷ v.epochs)) c.self.view_is)
    ∙ (kept-enters s.fixed s.epochs.value s.held c.args.ring c.args.members k.sound (known-epochs k) k.logged k.restored).0.sound

pub returns-clause-onward : goal.returns-clause-onward
returns-clause-onward g c =
    let s = c.self.inside in
    let k = c.self.invariant (ap (λ (v : Replication _). v.consistent) c.self.view_is ∙ c.requires.consistent) in
    let epochs = epoch_opening c.args.ring c.args.members ∷ s.epochs.value in
    subst (λ (v : Replication _). IsHeldLogContinued v.held s.held (known_log_of v.group v.epochs) (known_log_of s.fixed c.history_with_epoch.result.value)) c.self.view_is
    (goes-as s.fixed s.held s.held s.held (known_log_of s.fixed s.epochs.value) epochs c.history_with_epoch.result.value
    (kept-enters s.fixed s.epochs.value s.held c.args.ring c.args.members k.sound (known-epochs k) k.logged k.restored).1 refl c.history_with_epoch.ensures)

pub returns-clause-due : goal.returns-clause-due
returns-clause-due g c =
    let s = c.self.inside in
    let old = c.args.due.now.items in
    let k = c.self.invariant (ap (λ (v : Replication _). v.consistent) c.self.view_is ∙ c.requires.consistent) in
    let told = ap (λ (v : Replication _). old ++ due_at_regular v.group c.args.members v.epochs) c.self.view_is in
    elim c.if-is_primary.branch [
      | then-is_primary+in_ok-push w ↦
          rw w.due-is (w.in_ok-push.ensures.items
          ∙ due-primary k c.args.members w.head.result old (sym c.is_primary.ensures.value ∙ w.if-is_primary.true) (w.head.ensures ∙ ap head_of w.log.ensures)
          ∙ told)
      | else-is_primary w ↦
          rw w.due-is (due-apart s.fixed s.epochs.value c.args.members old (sym c.is_primary.ensures.value ∙ w.if-is_primary.false) ∙ told)
    ]
