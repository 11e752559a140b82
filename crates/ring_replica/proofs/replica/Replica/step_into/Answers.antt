-- A step that stops has no result and leaves the report unchanged; any other has the result that the outputs define.
use Rattle.std.proofs.Common.{sym, ◌∙◌, ap, subst, true, Option, Some, None, if◌then◌else◌}
use Rattle.std.specs.Prelude.{is_some}
use Rattle.ring_replication.specs.Replications.{HeldLog, Replication}
use Rattle.ring_log.specs.Logs.{Log}
use Rattle.ring_replica.specs.Replicas.{is_table_held, IsCounted}
use Rattle.ring_replica.proofs.ReplicaSteps.{ready, moved-by, steady-was, halted-counted, halted-later, stopped-same, step-halted, step-lost}
use Rattle.ring_replica.proofs.ReplicaSteps.{applied-is, effects-are, restored-now, due-are, due-is, answers-told, committed-told, restored-told}
use Rattle.ring_replica.proofs.ReplicaStepEnds.{carries-as, ended-counted, ended-told, ended-step}
use Rattle.ring_base.proofs.Results.{on-err}
use Rattle.ring_base.proofs.Cases.{some_has}
use Rattle.ring_replica.specs.declared.replica_output.ReplicaOutput.{ReplicaOutput}
use Rattle.ring_replica.proofs.replica.Replica.step_into.Goals as goal

pub prove-unreachable-requires : goal.prove-unreachable-requires
prove-unreachable-requires g c =
    let consistent = (ready c.self.invariant c.self.view_is c.requires.done c.requires.runs).consistent in
    cc (sym c.if-prove.true ∙ c.is_consistent-is_consistent.ensures.value ∙ consistent)

pub apply_outputs-requires-clause-sound : goal.apply_outputs-requires-clause-sound
apply_outputs-requires-clause-sound g c = c.is_consistent-is_consistent.ensures.sound (ready c.self.invariant c.self.view_is c.requires.done c.requires.runs).consistent

pub trim_if_due-requires-clause-none : goal.trim_if_due-requires-clause-none
trim_if_due-requires-clause-none g c = (ready c.self.invariant c.self.view_is c.requires.done c.requires.runs).none

pub apply_outputs-requires-clause-log : goal.apply_outputs-requires-clause-log
apply_outputs-requires-clause-log g c = c.is_consistent-is_consistent.ensures.log (ready c.self.invariant c.self.view_is c.requires.done c.requires.runs).consistent

pub invariant_of-self : goal.invariant_of-self
invariant_of-self g c =
    let b = ready c.self.invariant c.self.view_is c.requires.done c.requires.runs in
    halted-counted c.self.invariant b.none c.apply_outputs.ensures.group c.apply_outputs.ensures.front

pub returns-in_err-apply_outputs-clause-err : goal.returns-in_err-apply_outputs-clause-err
returns-in_err-apply_outputs-clause-err g c = on-err c.from_residual.result _ (stopped-same c.self.view_is c.apply_outputs.ensures.group c.apply_outputs.ensures.me)

pub invariant_of-self-then-not-is_consistent : goal.invariant_of-self-then-not-is_consistent
invariant_of-self-then-not-is_consistent g c =
    let b = ready c.self.invariant c.self.view_is c.requires.done c.requires.runs in
    halted-counted c.self.invariant b.none c.apply_outputs.ensures.group c.apply_outputs.ensures.front

pub returns-then-not-is_consistent : goal.returns-then-not-is_consistent
returns-then-not-is_consistent g c =
    let b = ready c.self.invariant c.self.view_is c.requires.done c.requires.runs in
    let nothing = step-halted b c.args.running.now c.args.outs.now c.in_ok-apply_outputs.ensures.sound (sym c.is_consistent.ensures.value ∙ c.if-not-is_consistent.true) in
    record {
      ok = stopped-same c.self.view_is c.apply_outputs.ensures.group c.apply_outputs.ensures.me ∙ nothing.replica;
      due = c.clear.ensures.items ∙ nothing.due;
      answers = c.requires.no_answers ∙ nothing.answers;
      committed = c.requires.none_committed ∙ nothing.doing;
      restored = c.requires.none_restored ∙ nothing.restored;
      steady = steady-was b (c.is_consistent-is_consistent.ensures.steady b.consistent);
      err = tt;
      refused = tt;
    }

pub invariant_of-self-in_err-effects_in_step : goal.invariant_of-self-in_err-effects_in_step
invariant_of-self-in_err-effects_in_step g c =
    let b = ready c.self.invariant c.self.view_is c.requires.done c.requires.runs in
    halted-counted c.self.invariant b.none c.apply_outputs.ensures.group c.apply_outputs.ensures.front

pub returns-in_err-effects_in_step-clause-err : goal.returns-in_err-effects_in_step-clause-err
returns-in_err-effects_in_step-clause-err g c =
    on-err c.from_residual-in_err-effects_in_step.result _ (stopped-same c.self.view_is c.apply_outputs.ensures.group c.apply_outputs.ensures.me)

pub invariant_of-self-in_default : goal.invariant_of-self-in_default
invariant_of-self-in_default g c =
    let b = ready c.self.invariant c.self.view_is c.requires.done c.requires.runs in
    halted-counted c.self.invariant b.none c.apply_outputs.ensures.group c.apply_outputs.ensures.front

pub returns-in_default : goal.returns-in_default
returns-in_default g c =
    let b = ready c.self.invariant c.self.view_is c.requires.done c.requires.runs in
    let m = moved-by b c.args.running.now c.args.outs.now c.apply_outputs.new.self c.apply_outputs.ensures.group c.apply_outputs.ensures.me c.apply_outputs.ensures.front
    (sym c.is_consistent.ensures.value ∙ c.if-not-is_consistent.false) c.in_ok-apply_outputs.ensures.onward (c.is_consistent-is_consistent.ensures.log b.consistent) c.is_consistent.ensures.log
    (c.is_consistent-is_consistent.ensures.steady b.consistent) c.is_consistent.ensures.steady c.in_ok-apply_outputs.ensures.sound c.in_ok-apply_outputs.ensures.epochs in
    let lost = sym c.in_ok-effects_in_step.ensures.fits ∙ ap is_some c.in_default.is in
    let nothing = step-lost m (ap (is_table_held g.O.Object.sequential) (sym c.stored_log.ensures.held) ∙ lost) in
    let same = c.in_ok-effects_in_step.ensures.nothing lost in
    record {
      ok = stopped-same c.self.view_is c.apply_outputs.ensures.group c.apply_outputs.ensures.me ∙ nothing.replica;
      due = c.clear-in_default.ensures.items ∙ nothing.due;
      answers = ap (λ (x : ReplicaOutput _). x.answers.items) same ∙ c.requires.no_answers ∙ nothing.answers;
      committed = ap (λ (x : ReplicaOutput _). x.committed.items) same ∙ c.requires.none_committed ∙ nothing.doing;
      restored = ap (λ (x : ReplicaOutput _). x.restored) same ∙ c.requires.none_restored ∙ nothing.restored;
      steady = steady-was b (c.is_consistent-is_consistent.ensures.steady b.consistent);
      err = tt;
      refused = tt;
    }

pub invariant_of-self-in_err-trim_if_due : goal.invariant_of-self-in_err-trim_if_due
invariant_of-self-in_err-trim_if_due g c =
    let s = c.self.inside in
    let b = ready c.self.invariant c.self.view_is c.requires.done c.requires.runs in
    let stays = b.none ∙ sym c.in_err-trim_if_due.ensures.stays in
    subst (λ (l : Option (Log _)). IsCounted g.O.Object.sequential c.trim_if_due.new.replication c.apply_committed.new.sessions s.tickets l s.log_len_at_step s.committed_len s.trimmed
    s.effect_count s.effects_in_step true s.history.value) stays
    (halted-later c.self.invariant c.apply_outputs.new.self c.record_sends.new.self c.trim_if_due.new.replication _ b.none c.apply_outputs.ensures.group c.apply_outputs.ensures.front
    c.record_sends.ensures c.in_err-trim_if_due.ensures.err)

pub returns-in_err-trim_if_due-clause-err : goal.returns-in_err-trim_if_due-clause-err
returns-in_err-trim_if_due-clause-err g c =
    let same = c.in_err-trim_if_due.ensures.err ∙ c.record_sends.ensures in
    on-err c.from_residual-in_err-trim_if_due.result _
    (stopped-same c.self.view_is (ap (λ (x : Replication _). x.group) same ∙ c.apply_outputs.ensures.group) (ap (λ (x : Replication _). x.me) same ∙ c.apply_outputs.ensures.me))

pub invariant_of-self-2 : goal.invariant_of-self-2
invariant_of-self-2 g c =
    let s = c.self.inside in
    let object = g.O.Object.sequential in
    let b = ready c.self.invariant c.self.view_is c.requires.done c.requires.runs in
    let m = moved-by b c.args.running.now c.args.outs.now c.apply_outputs.new.self c.apply_outputs.ensures.group c.apply_outputs.ensures.me c.apply_outputs.ensures.front
    (sym c.is_consistent.ensures.value ∙ c.if-not-is_consistent.false) c.in_ok-apply_outputs.ensures.onward (c.is_consistent-is_consistent.ensures.log b.consistent) c.is_consistent.ensures.log
    (c.is_consistent-is_consistent.ensures.steady b.consistent) c.is_consistent.ensures.steady c.in_ok-apply_outputs.ensures.sound c.in_ok-apply_outputs.ensures.epochs in
    let x = c.in-Some.effects_in_step in
    let fits = sym c.in_ok-effects_in_step.ensures.fits ∙ ap is_some c.in-Some.is in
    let carried_frames = carries-as {object = object} c.stored_log.ensures.held (record {
      fits = fits;
      applied = c.in_ok-effects_in_step.ensures.table fits;
      given = c.in_ok-effects_in_step.ensures.answers fits;
      committed = c.in_ok-effects_in_step.ensures.committed fits;
      counted = some_has _ _ x c.in-Some.is c.in_ok-effects_in_step.ensures.effects_in_step;
    }) in
    ended-counted m c.apply_committed.new.replica_output.due.items c.apply_committed.new.sessions (applied-is m carried_frames.applied) (restored-now m carried_frames.fits) (effects-are m carried_frames.counted)
    c.record_sends.ensures c.in_ok-trim_if_due.ensures.ok c.in_ok-trim_if_due.ensures.dropped

pub returns : goal.returns
returns g c =
    let s = c.self.inside in
    let object = g.O.Object.sequential in
    let b = ready c.self.invariant c.self.view_is c.requires.done c.requires.runs in
    let m = moved-by b c.args.running.now c.args.outs.now c.apply_outputs.new.self c.apply_outputs.ensures.group c.apply_outputs.ensures.me c.apply_outputs.ensures.front
    (sym c.is_consistent.ensures.value ∙ c.if-not-is_consistent.false) c.in_ok-apply_outputs.ensures.onward (c.is_consistent-is_consistent.ensures.log b.consistent) c.is_consistent.ensures.log
    (c.is_consistent-is_consistent.ensures.steady b.consistent) c.is_consistent.ensures.steady c.in_ok-apply_outputs.ensures.sound c.in_ok-apply_outputs.ensures.epochs in
    let x = c.in-Some.effects_in_step in
    let fits = sym c.in_ok-effects_in_step.ensures.fits ∙ ap is_some c.in-Some.is in
    let carried_frames = carries-as {object = object} c.stored_log.ensures.held (record {
      fits = fits;
      applied = c.in_ok-effects_in_step.ensures.table fits;
      given = c.in_ok-effects_in_step.ensures.answers fits;
      committed = c.in_ok-effects_in_step.ensures.committed fits;
      counted = some_has _ _ x c.in-Some.is c.in_ok-effects_in_step.ensures.effects_in_step;
    }) in
    let due = c.in_ok-effects_in_step.ensures.due
    ∙ due-are m carried_frames.fits c.pending.ensures c.requires.no_due (c.in_ok-apply_outputs.ensures.due m.consistent) in
    record {
      ok = ended-step m carried_frames.fits due (ended-told m c.apply_committed.new.replica_output.due.items c.apply_committed.new.sessions (applied-is m carried_frames.applied)
          (restored-now m carried_frames.fits) (effects-are m carried_frames.counted) c.record_sends.ensures c.in_ok-trim_if_due.ensures.ok
          c.in_ok-trim_if_due.ensures.dropped);
      due = due-is m carried_frames.fits due;
      answers = answers-told m carried_frames.fits c.pending-2.ensures carried_frames.given;
      committed = committed-told m carried_frames.fits carried_frames.committed;
      restored = restored-told m carried_frames.fits (c.restored_places-replica_output.ensures
          ∙ ap (λ (h : HeldLog _). if is_some h.before then Some h.log.trimmed else None) c.stored_log-2.ensures.held);
      steady = steady-was b (c.is_consistent-is_consistent.ensures.steady b.consistent);
      err = tt;
      refused = tt;
    }
