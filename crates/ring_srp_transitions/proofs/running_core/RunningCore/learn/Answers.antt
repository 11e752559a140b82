-- The token has a plan, and is sent with one hop more.
use Rattle.std.proofs.Common.{◌≡◌, Some, ◌∷◌, [], ◌++◌, ap, ◌∙◌, sym, subst, rules}
use Rattle.std.proofs.lemmas.Result.{on_ok_weaker}
use Rattle.ring_commit.specs.Rounds.{receiver}
use Rattle.ring_recover.specs.RecoveryState.{recovery_opening}
use Rattle.ring_window.specs.Windows.{window_opening}
use Rattle.ring_wire.specs.declared.commit.CommitToken.{CommitToken}
use Rattle.ring_wire.specs.declared.frame.Frame.TheVariants.{Commit as CommitFrame}
use Rattle.ring_core_spec.specs.State.{Core, OutgoingFrame}
use Rattle.ring_core_spec.specs.Transitions.{last_sent_repeated}
use Rattle.ring_core_spec.specs.Giving.{sends_with_receivers}
use Rattle.ring_srp_transitions.specs.Allowing.{LearnAllowed}
use Rattle.ring_srp_transitions.specs.Learns.{plan_at, core_in_recovery}
use Rattle.ring_srp_transitions.proofs.Learns.{planned_for, passes_on}
use Rattle.ring_srp_transitions.proofs.Receivers.{hop_room, went_on}
use Rattle.ring_srp_transitions.proofs.running_core.RunningCore.learn.Goals as goal

pub unwrap-plan-requires : goal.unwrap-plan-requires
unwrap-plan-requires g c =
    let now = c.args.self.now in
    let me = ap (λ (x : Core g.row.A.Denot). x.me) c.self.view_is in
    let is = c.from_commit.ensures ∙ planned_for now c.args.boxed c.token.result.now c.token.ensures c.requires c.self.inside.me me in
    rw is (search rules)

pub advance_hop-requires : goal.advance_hop-requires
advance_hop-requires g c = hop_room c.args.boxed c.requires.fits

pub enter_recovery-requires-clause-allowed : goal.enter_recovery-requires-clause-allowed
enter_recovery-requires-clause-allowed g c = subst (λ (k : CommitToken). LearnAllowed c.args.self.now k) (sym (c.ghost_now-received.ensures ∙ c.token-2.ensures)) c.requires

pub enter_recovery-requires-clause-plan : goal.enter_recovery-requires-clause-plan
enter_recovery-requires-clause-plan g c =
    let now = c.args.self.now in
    let me = ap (λ (x : Core g.row.A.Denot). x.me) c.self.view_is in
    let is = c.from_commit.ensures ∙ planned_for now c.args.boxed c.token.result.now c.token.ensures c.requires c.self.inside.me me in
    let same : Some c.unwrap-plan.result ≡ Some (recovery_opening now.me (plan_at now c.args.boxed)) = sym c.unwrap-plan.ensures ∙ is in
    let received = c.ghost_now-received.ensures ∙ c.token-2.ensures in
    cc

pub enter_recovery-requires-clause-window : goal.enter_recovery-requires-clause-window
enter_recovery-requires-clause-window g c = c.in_ok-window.ensures.ok ∙ ap (λ (x : Core g.row.A.Denot). window_opening {A = g.row.A.Denot} x.running.ring) c.self.view_is

pub returns-clause-core : goal.returns-clause-core
returns-clause-core g c =
    let now = c.args.self.now in
    let goes = passes_on {A = g.row.A.Denot} c.args.boxed c.advance_hop.new.self c.receiver.result c.singleton-to.result
    (went_on c.args.boxed c.advance_hop.new.self c.advance_hop.ensures) (c.receiver.ensures ∙ ap receiver c.token-3.ensures) c.singleton-to.ensures.value in
    let is = c.enter_recovery.ensures
    ∙ ap (λ (k : CommitToken). core_in_recovery now k (record { to = c.singleton-to.result; frame = CommitFrame c.advance_hop.new.self }))
    (c.ghost_now-received.ensures ∙ c.token-2.ensures)
    ∙ ap (core_in_recovery now c.args.boxed) goes in
    on_ok_weaker c.send_kept_token.result (λ _. is) c.send_kept_token.ensures.ok

pub returns-clause-sends : goal.returns-clause-sends
returns-clause-sends g c =
    let now = c.args.self.now in
    let items = c.args.sends.now.items in
    let goes = passes_on {A = g.row.A.Denot} c.args.boxed c.advance_hop.new.self c.receiver.result c.singleton-to.result
    (went_on c.args.boxed c.advance_hop.new.self c.advance_hop.ensures) (c.receiver.ensures ∙ ap receiver c.token-3.ensures) c.singleton-to.ensures.value in
    let last_sent = ap (λ (x : Core g.row.A.Denot). items ++ sends_with_receivers (last_sent_repeated x.last_sent)) c.enter_recovery.ensures
    ∙ ap (λ (x : OutgoingFrame g.row.A.Denot). items ++ sends_with_receivers (x ∷ [])) goes in
    on_ok_weaker c.send_kept_token.result (λ forwarded. forwarded ∙ last_sent) c.send_kept_token.ensures.ok
