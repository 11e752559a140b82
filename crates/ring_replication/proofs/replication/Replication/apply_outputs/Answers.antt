-- The outputs so far have their effect on the replication; no mark falls at the next one.
use Rattle.std.proofs.Common.{◌≡◌, length, take, refl, ap, sym, ◌∙◌, subst}
use Rattle.std.proofs.lemmas.List.{take_all}
use Rattle.std.proofs.lemmas.Option.{slice_get_read}
use Rattle.ring_base.proofs.Rows.{take-more}
use Rattle.ring_base.specs.Prefixes.{prefix_self, prefix_trans}
use Rattle.ring_log.specs.KnownLog.{known_log_of}
use Rattle.ring_log.specs.Logs.{Log, committed_calls}
use Rattle.ring_replication.specs.Replications.{reported_log, IsHeldLogContinued}
use Rattle.ring_replication.proofs.ReplicationSteps.{walked-none, walked-more, walked-all, rises-next}
use Rattle.ring_replication.proofs.replication.Replication.apply_outputs.Goals as goal

pub loop-out-init : goal.loop-out-init
loop-out-init g c = record {
  walked = walked-none c.requires.consistent c.requires.sound (ap (λ (l : Log _). l.trimmed) c.requires.log);
  front = prefix_self (committed_calls (reported_log c.args.self.now.held));
  group = refl;
  me = refl;
}

pub apply_output_if_consistent-requires : goal.apply_output_if_consistent-requires
apply_output_if_consistent-requires g c =
    let items = c.args.outs.now in
    let stands = slice_get_read items (length items) c.loop-out.out-index c.out-item.result refl c.loop-out-test.true c.out-item.is in
    record { rises = λ consistent. rises-next c.args.self.now.epochs items c.loop-out.out-index c.requires.rises stands (c.loop-out.invariant.walked.node_epochs consistent) }

pub loop-out-preserved : goal.loop-out-preserved
loop-out-preserved g c =
    let i = c.loop-out.invariant in
    let e = c.in_ok-apply_output_if_consistent.ensures in
    let items = c.args.outs.now in
    let at = slice_get_read items (length items) c.loop-out.out-index c.out-item.result refl c.loop-out-test.true c.out-item.is in
    record {
      walked = walked-all (walked-more c.out-item.result i.walked i.group c.apply_output_if_consistent.ensures.group i.me (ap (λ (l : Log _). l.trimmed) c.requires.log) refl e.sound e.epochs
          e.onward e.due) (sym (take-more items c.loop-out.out-index c.out-item.result at));
      front = prefix_trans (committed_calls (reported_log c.args.self.now.held)) (committed_calls (reported_log c.loop-out.self.held))
          (committed_calls (reported_log c.apply_output_if_consistent.new.self.held)) i.front c.apply_output_if_consistent.ensures.front;
      group = c.apply_output_if_consistent.ensures.group ∙ i.group;
      me = c.apply_output_if_consistent.ensures.me ∙ i.me;
    }

pub returns-in_err-apply_output_if_consistent-clause-front : goal.returns-in_err-apply_output_if_consistent-clause-front
returns-in_err-apply_output_if_consistent-clause-front g c =
    prefix_trans (committed_calls (reported_log c.args.self.now.held)) (committed_calls (reported_log c.loop-out.self.held))
    (committed_calls (reported_log c.apply_output_if_consistent.new.self.held)) c.loop-out.invariant.front c.apply_output_if_consistent.ensures.front

pub returns : goal.returns
returns g c =
    let i = c.loop-out.invariant in
    let old = c.args.self.now in
    let now = c.loop-out.self in
    let w = walked-all i.walked (take_all c.loop-out.out-index c.args.outs.now c.loop-out-test.false) in
    record {
      sound = w.sound;
      epochs = w.node_epochs;
      due = w.history_with_sends;
      onward = λ t. subst (λ gr. IsHeldLogContinued old.held now.held (known_log_of old.group old.epochs) (known_log_of gr now.epochs)) (sym i.group) (w.onward t);
      front = i.front;
      group = i.group;
      me = i.me;
      refused = tt;
    }
