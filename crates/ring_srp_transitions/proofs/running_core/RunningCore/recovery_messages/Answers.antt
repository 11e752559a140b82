-- The state of Recovery decides what is left to wrap.
use Rattle.std.proofs.Common.{◌≡◌, List, take, IfOk, ap, ◌∙◌, subst}
use Rattle.ring_payload.specs.declared.content.Payload.{Payload}
use Rattle.ring_recover.specs.Wrapping.{wraps_and_end}
use Rattle.ring_core_spec.specs.State.{Core}
use Rattle.ring_core_spec.specs.Views.{plan}
use Rattle.ring_srp_transitions.proofs.Held.{recovering_some, recovering_none}
use Rattle.ring_srp_transitions.proofs.RecoveryVisits.{wrap_near, wrap_all}
use Rattle.ring_srp_transitions.proofs.running_core.RunningCore.recovery_messages.Goals as goal

pub first_recovery_messages-requires-clause-near : goal.first_recovery_messages-requires-clause-near
first_recovery_messages-requires-clause-near g c =
    let s = ap (λ (q : Core g.row.A.Denot). q.state) c.self.view_is ∙ c.requires in
    wrap_near _ _ _ c.in-Some.recovery_state c.self.invariant.kept (recovering_some _ _ c.in-Some.recovery_state c.in-Some.is (c.self.invariant.recovery_state s))

pub returns-in-Some-clause-items : goal.returns-in-Some-clause-items
returns-in-Some-clause-items g c =
    let s = ap (λ (q : Core g.row.A.Denot). q.state) c.self.view_is ∙ c.requires in
    let all = wrap_all _ _ _ c.in-Some.recovery_state c.self.invariant.kept (recovering_some _ _ c.in-Some.recovery_state c.in-Some.is (c.self.invariant.recovery_state s))
    ∙ ap (λ (q : Core g.row.A.Denot). wraps_and_end q.me (plan q) q.running.ring q.held) c.self.view_is in
    subst (λ (ys : List (Payload g.row.A.Denot)). IfOk c.first_recovery_messages.result (λ payloads. payloads.items ≡ take c.args.most ys)) all c.first_recovery_messages.ensures.items

pub returns-in-None-clause-items : goal.returns-in-None-clause-items
returns-in-None-clause-items g c =
    let s = ap (λ (q : Core g.row.A.Denot). q.state) c.self.view_is ∙ c.requires in
    absurd (recovering_none _ _ c.in-None.is (c.self.invariant.recovery_state s))
