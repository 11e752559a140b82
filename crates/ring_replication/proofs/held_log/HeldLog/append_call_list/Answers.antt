-- The reported committed places are unchanged when calls are appended.
use Rattle.std.proofs.Common.{◌≡◌, ◌+◌, length, true, ap, ◌∙◌, subst}
use Rattle.ring_base.specs.Prefixes.{IsListPrefix}
use Rattle.ring_base.proofs.Results.{on-ok}
use Rattle.ring_log.specs.Logs.{log_length, appended, log_with_calls_if_room, is_log_length, committed_calls}
use Rattle.ring_replication.specs.Replications.{HeldLog, reported_log}
use Rattle.ring_replication.proofs.LogChanges.{held-followed, front-followed}
use Rattle.ring_replication.proofs.held_log.HeldLog.append_call_list.Goals as goal

pub returns-clause-held : goal.returns-clause-held
returns-clause-held g c =
    let s = c.self.inside in
    let old : HeldLog _ = record { log = s.log; before = s.before; snapshot = s.snapshot } in
    let calls = c.args.calls.now in
    let now : HeldLog _ = record old { log = c.append_all_if_room.new.self } in
    on-ok c.append_all_if_room.result (c.append_all_if_room.new.self ≡ log_with_calls_if_room s.log calls)
    (is_log_length (log_length c.args.self.now.log + length calls) ≡ true → now ≡ record c.args.self.now { log = appended c.args.self.now.log calls })
    (λ is fits. held-followed old c.append_all_if_room.new.self calls is (ap (λ (h : HeldLog _). is_log_length (log_length h.log + length calls)) c.self.view_is ∙ fits)
    ∙ ap (λ (h : HeldLog _). record h { log = appended h.log calls }) c.self.view_is) c.append_all_if_room.ensures.log

pub returns-clause-front : goal.returns-clause-front
returns-clause-front g c =
    let s = c.self.inside in
    let old : HeldLog _ = record { log = s.log; before = s.before; snapshot = s.snapshot } in
    let now : HeldLog _ = record old { log = c.append_all_if_room.new.self } in
    subst (λ (h : HeldLog _). IsListPrefix (committed_calls (reported_log h)) (committed_calls (reported_log now))) c.self.view_is
    (front-followed c.append_all_if_room.result s.before s.log c.append_all_if_room.new.self c.args.calls.now c.append_all_if_room.ensures.log c.append_all_if_room.ensures.err)
