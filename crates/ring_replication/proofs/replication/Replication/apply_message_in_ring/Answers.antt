-- The stored values after a message, by its effect on the log and on its exchange.
use Rattle.std.proofs.Common.{◌++◌, refl, ap, sym, ◌∙◌, subst, None}
use Rattle.ring_base.specs.Prefixes.{IsListPrefix, prefix_trans}
use Rattle.ring_log.specs.Logs.{committed_upto, committed_calls}
use Rattle.ring_log.specs.Epochs.{epochs_with_message}
use Rattle.ring_log.specs.KnownLog.{known_log_of, is_known_log_sound}
use Rattle.ring_replication.specs.Replications.{Replication, reported_log, covered_places, watermarks_above, watermark_at, due_sends_on_message, IsHeldLogContinued}
use Rattle.ring_replication.proofs.ReplicationSteps.{kept-as, kept-epochs_with_message, sound-epochs_with_message, due-epochs_with_message, length-kept, goes-as}
use Rattle.ring_replication.proofs.replication.Replication.apply_message_in_ring.Goals as goal

pub apply_message-requires : goal.apply_message-requires
apply_message-requires g c =
    let k = c.self.invariant (ap (λ (v : Replication _). v.consistent) c.self.view_is ∙ c.requires.consistent) in
    length-kept k

pub invariant_of-self-2 : goal.invariant_of-self-2
invariant_of-self-2 g c = λ fits.
    let s = c.self.inside in
    let k = c.self.invariant (ap (λ (v : Replication _). v.consistent) c.self.view_is ∙ c.requires.consistent) in
    let fit = sym c.in_ok-fits.ensures.fits ∙ fits in
    let pushed = c.in_ok-push_back.ensures.items in
    kept-as s.fixed _ _ _ _ s.ring _ _ s.mark _ _
    (kept-epochs_with_message s.fixed s.epochs.value s.held s.ring s.stage s.mark s.watermarks.items c.args.message.now
    (record { ring = s.ring; runs = c.args.runs; me = s.me; committed = c.args.committed_before }) c.args.pending.now k refl fit c.apply_message.new.stage c.apply_message.new.held
    c.watermark_at-places.result c.in_ok-fits.ensures.stage (c.in_ok-fits.ensures.held fit)
    (c.watermark_at-places.ensures ∙ ap (watermark_at c.apply_message.new.stage) c.log.ensures)).0
    c.history_with_message.ensures
    (c.commit_covered.ensures.held ∙ ap (λ rs. record c.apply_message.new.held { log = committed_upto c.apply_message.new.held.log (covered_places s.mark 0 rs) }) pushed) refl
    (c.commit_covered.ensures.watermarks ∙ ap (watermarks_above s.mark) pushed)

pub returns-clause-sound : goal.returns-clause-sound
returns-clause-sound g c =
    let s = c.self.inside in
    let k = c.self.invariant (ap (λ (v : Replication _). v.consistent) c.self.view_is ∙ c.requires.consistent) in
    c.in_ok-fits.ensures.fits
    ∙ sound-epochs_with_message s.fixed s.epochs.value s.held s.ring s.stage s.mark s.watermarks.items c.args.message.now
    (record { ring = s.ring; runs = c.args.runs; me = s.me; committed = c.args.committed_before }) c.args.pending.now k refl
    ∙ ap (λ (v : Replication _). is_known_log_sound v.group (epochs_with_message c.args.message.now v.epochs)) c.self.view_is

pub returns-clause-due : goal.returns-clause-due
returns-clause-due g c = λ fits.
    let s = c.self.inside in
    let k = c.self.invariant (ap (λ (v : Replication _). v.consistent) c.self.view_is ∙ c.requires.consistent) in
    let fit = sym c.in_ok-fits.ensures.fits ∙ fits in
    c.in_ok-fits.ensures.due fit
    ∙ ap (λ l. c.args.due.now.items ++ l)
    (due-epochs_with_message s.fixed s.epochs.value s.held s.ring s.stage s.mark s.watermarks.items c.args.message.now
    (record { ring = s.ring; runs = c.args.runs; me = s.me; committed = c.args.committed_before }) c.args.pending.now k refl fit
    ∙ ap (λ (v : Replication _).
    due_sends_on_message (record {
      group = v.group;
      me = v.me;
      running = None;
      pending = c.args.pending.now;
      committed = c.args.committed_before;
      trimmed = v.held.log.trimmed;
      snapshot = v.held.snapshot;
    }) c.args.runs v.epochs c.args.message.now
    (epochs_with_message c.args.message.now v.epochs)) c.self.view_is)

pub returns-clause-front : goal.returns-clause-front
returns-clause-front g c =
    subst (λ (v : Replication _). IsListPrefix (committed_calls (reported_log v.held)) (committed_calls (reported_log c.commit_covered.new.held))) c.self.view_is
    (prefix_trans (committed_calls (reported_log c.self.inside.held)) (committed_calls (reported_log c.apply_message.new.held))
    (committed_calls (reported_log c.commit_covered.new.held)) c.apply_message.ensures.front c.commit_covered.ensures.front)

pub returns-clause-onward : goal.returns-clause-onward
returns-clause-onward g c = λ fits.
    let s = c.self.inside in
    let k = c.self.invariant (ap (λ (v : Replication _). v.consistent) c.self.view_is ∙ c.requires.consistent) in
    let fit = sym c.in_ok-fits.ensures.fits ∙ fits in
    let pushed = c.in_ok-push_back.ensures.items in
    subst (λ (v : Replication _). IsHeldLogContinued v.held c.commit_covered.new.held (known_log_of v.group v.epochs) (known_log_of s.fixed c.history_with_message.result.value)) c.self.view_is
    (goes-as s.fixed s.held _ c.commit_covered.new.held (known_log_of s.fixed s.epochs.value) (epochs_with_message c.args.message.now s.epochs.value) c.history_with_message.result.value
    (kept-epochs_with_message s.fixed s.epochs.value s.held s.ring s.stage s.mark s.watermarks.items c.args.message.now
    (record { ring = s.ring; runs = c.args.runs; me = s.me; committed = c.args.committed_before }) c.args.pending.now k refl fit c.apply_message.new.stage c.apply_message.new.held
    c.watermark_at-places.result c.in_ok-fits.ensures.stage (c.in_ok-fits.ensures.held fit)
    (c.watermark_at-places.ensures ∙ ap (watermark_at c.apply_message.new.stage) c.log.ensures)).1
    (c.commit_covered.ensures.held ∙ ap (λ rs. record c.apply_message.new.held { log = committed_upto c.apply_message.new.held.log (covered_places s.mark 0 rs) }) pushed)
    c.history_with_message.ensures)
