-- A finished step is reported; a stopped replica reports what it did before.
use Rattle.std.proofs.Common.{Option, ap, sym, ◌∙◌, subst}
use Rattle.std.proofs.lemmas.Bool.{cond-true, cond-false}
use Rattle.ring_log.specs.Logs.{Log, log_length}
use Rattle.ring_replication.specs.Replications.{HeldLog}
use Rattle.ring_replica.specs.Replicas.{Replica, ghost_state_after_step, replica_done, current_log, newly_committed_calls, replica_view, IsCounted}
use Rattle.ring_replica.proofs.Replicas.{finished-counted, done-told, left-told, none-left}
use Rattle.ring_replica.proofs.SteadyEpochs.{steady-known}
use Rattle.ring_replica.proofs.replica.Replica.end_replica_step.Goals as goal

pub returns-then-self : goal.returns-then-self
returns-then-self g c =
    let stops = ap (λ (v : Replica _). v.stopped) (sym c.self.view_is) ∙ c.if-self.true in
    record {
      replica = sym (cond-true c.args.self.now.stopped c.args.self.now (replica_done c.args.self.now c.args.answers.now) stops);
      dropped = let none = none-left c.self.invariant.kept c.self.view_is c.if-self.true in cc none;
    }

pub invariant_of-self : goal.invariant_of-self
invariant_of-self g c =
    let s = c.self.inside in
    let ghost_state = s.history.value in
    let consistent = (c.self.invariant.kept.runs c.if-self.false).consistent in
    let more = c.newly_committed_calls-more.result.now in
    let told = c.history_after_step.ensures ∙ ap (λ epochs. ghost_state_after_step ghost_state epochs more c.args.answers.now) c.epochs.ensures in
    let log_is = c.log-log.ensures ∙ ap (λ (h : HeldLog _). h.log) c.stored_log-2.ensures.held in
    subst (λ (l : Option (Log _)). IsCounted g.O.Object.sequential c.end_step.new.self s.sessions c.record_committed_answers.new.self l c.length-self-inside.result
    c.committed_length-self-inside.result c.trimmed-self-inside.result s.effects_in_step s.effects_in_step s.stopped c.history_after_step.result.value) (sym c.take_dropped_calls.ensures.taken)
    (finished-counted c.self.invariant more c.args.answers.now c.if-self.false (c.stored_log.ensures.log consistent) (steady-known (c.stored_log.ensures.steady consistent))
    c.end_step.ensures c.record_committed_answers.ensures (c.length-self-inside.ensures ∙ ap (λ (l : Log _). log_length l) log_is)
    (c.committed_length-self-inside.ensures ∙ ap (λ (l : Log _). l.committed) log_is) (c.trimmed-self-inside.ensures ∙ ap (λ (l : Log _). l.trimmed) log_is)
    told)

pub returns : goal.returns
returns g c =
    let s = c.self.inside in
    let ghost_state = s.history.value in
    let more = c.newly_committed_calls-more.result.now in
    let told = c.history_after_step.ensures ∙ ap (λ epochs. ghost_state_after_step ghost_state epochs more c.args.answers.now) c.epochs.ensures in
    let log_is = c.log-log.ensures ∙ ap (λ (h : HeldLog _). h.log) c.stored_log-2.ensures.held in
    let behind = c.newly_committed_calls-more.ensures ∙ ap (newly_committed_calls s.committed_len) (c.current_log.ensures ∙ ap (λ (h : HeldLog _). current_log h s.log_being_dropped) c.stored_log.ensures.held) in
    let runs = ap (λ (v : Replica _). v.stopped) (sym c.self.view_is) ∙ c.if-self.false in
    record {
      replica = ap (λ (l : Option (Log _)). replica_view c.end_step.new.self l c.committed_length-self-inside.result s.stopped c.history_after_step.result.value)
          c.take_dropped_calls.ensures.taken ∙ done-told c.self.invariant.kept c.args.answers.now c.if-self.false c.self.view_is behind c.end_step.ensures
          (c.committed_length-self-inside.ensures ∙ ap (λ (l : Log _). l.committed) log_is) told
          ∙ sym (cond-false c.args.self.now.stopped c.args.self.now (replica_done c.args.self.now c.args.answers.now) runs);
      dropped = c.take_dropped_calls.ensures.calls ∙ left-told c.self.invariant.kept c.self.view_is c.if-self.false;
    }
