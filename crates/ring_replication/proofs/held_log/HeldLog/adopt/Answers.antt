-- The reported committed places are unchanged, however a base is adopted.
use Rattle.std.proofs.Common.{◌≡◌, Option, Some, ap, sym, ◌∙◌, subst}
use Rattle.std.specs.Prelude.{unwrap_or}
use Rattle.ring_base.specs.Prefixes.{IsListPrefix, prefix_self}
use Rattle.ring_log.specs.Logs.{Log, committed_calls, is_adoptable}
use Rattle.ring_replication.specs.Replications.{HeldLog, reported_log, held_log_adopted}
use Rattle.ring_replication.proofs.LogChanges.{refused-is, joined-is, restored-is, held-joined, held-restored, told-front, front-joined, front-refused}
use Rattle.ring_replication.proofs.held_log.HeldLog.adopt.Goals as goal

pub returns-in_err-adopt-clause-front : goal.returns-in_err-adopt-clause-front
returns-in_err-adopt-clause-front g c =
    let s = c.self.inside in
    subst (λ (h : HeldLog _). IsListPrefix (committed_calls (reported_log h)) (committed_calls (unwrap_or s.before c.adopt.new.self))) c.self.view_is
    (told-front s.before s.log c.adopt.new.self (subst (λ (l : Log _). IsListPrefix (committed_calls s.log) (committed_calls l)) (sym c.in_err-adopt.ensures.err)
    (prefix_self (committed_calls s.log))))

pub returns-in-Refused-clause-fits : goal.returns-in-Refused-clause-fits
returns-in-Refused-clause-fits g c =
    let s = c.self.inside in
    sym (ap (λ (h : HeldLog _). is_adoptable h.log c.args.base) (sym c.self.view_is)
    ∙ refused-is s.log c.args.base (sym c.in-Refused.is ∙ c.in_ok-adopt.ensures.how))

pub returns-in-Refused-clause-front : goal.returns-in-Refused-clause-front
returns-in-Refused-clause-front g c =
    let s = c.self.inside in
    let refused = refused-is s.log c.args.base (sym c.in-Refused.is ∙ c.in_ok-adopt.ensures.how) in
    subst (λ (h : HeldLog _). IsListPrefix (committed_calls (reported_log h)) (committed_calls (unwrap_or s.before c.adopt.new.self))) c.self.view_is
    (told-front s.before s.log c.adopt.new.self (front-refused s.log c.adopt.new.self c.args.ring c.args.base refused c.in_ok-adopt.ensures.log))

pub returns-in-Joined : goal.returns-in-Joined
returns-in-Joined g c =
    let s = c.self.inside in
    let joined = joined-is s.log c.args.base (sym c.in-Joined.is ∙ c.in_ok-adopt.ensures.how) in
    record {
      fits = sym (ap (λ (h : HeldLog _). is_adoptable h.log c.args.base) (sym c.self.view_is) ∙ joined.may);
      held = λ may. held-joined (record { log = s.log; before = s.before; snapshot = s.snapshot }) c.args.ring c.args.base c.adopt.new.self joined
          c.in_ok-adopt.ensures.log ∙ ap (λ (h : HeldLog _). held_log_adopted h c.args.ring c.args.base) c.self.view_is;
      front = subst (λ (h : HeldLog _). IsListPrefix (committed_calls (reported_log h)) (committed_calls (unwrap_or s.before c.adopt.new.self))) c.self.view_is
          (told-front s.before s.log c.adopt.new.self (front-joined s.log c.adopt.new.self c.args.ring c.args.base joined c.in_ok-adopt.ensures.log));
      refused = tt;
    }

pub returns-in-Restored : goal.returns-in-Restored
returns-in-Restored g c =
    let s = c.self.inside in
    let r = restored-is s.log c.args.base c.in-Restored.snapshot c.in-Restored.before (sym c.in-Restored.is ∙ c.in_ok-adopt.ensures.how) in
    let now = c.note_restore.ensures in
    let log_is = now.log ∙ c.in_ok-adopt.ensures.log in
    let of : Log _ → Log _ → _ → HeldLog _ = λ l b bs. record { log = l; before = Some (unwrap_or s.before b); snapshot = bs } in
    let same : c.note_restore.new.self ≡ of c.note_restore.new.self.log c.in-Restored.before c.in-Restored.snapshot =
    ap (λ o. record { log = c.note_restore.new.self.log; before = o; snapshot = c.note_restore.new.self.snapshot }) now.before
    ∙ ap (λ bs. of c.note_restore.new.self.log c.in-Restored.before bs) now.snapshot in
    record {
      fits = sym (ap (λ (h : HeldLog _). is_adoptable h.log c.args.base) (sym c.self.view_is) ∙ r.may);
      held = λ may. same ∙ held-restored (record { log = s.log; before = s.before; snapshot = s.snapshot }) c.args.ring c.args.base c.note_restore.new.self.log
          c.in-Restored.before c.in-Restored.snapshot r log_is ∙ ap (λ (h : HeldLog _). held_log_adopted h c.args.ring c.args.base) c.self.view_is;
      front = subst (λ (h : HeldLog _). IsListPrefix (committed_calls (reported_log h)) (committed_calls (reported_log c.note_restore.new.self))) c.self.view_is
          (subst (λ (o : Option (Log _)). IsListPrefix (committed_calls (unwrap_or s.before s.log)) (committed_calls (unwrap_or o c.note_restore.new.self.log)))
          (sym now.before) (subst (λ (l : Log _). IsListPrefix (committed_calls (unwrap_or s.before s.log)) (committed_calls (unwrap_or s.before l))) (sym r.before)
          (prefix_self (committed_calls (unwrap_or s.before s.log)))));
      refused = tt;
    }
