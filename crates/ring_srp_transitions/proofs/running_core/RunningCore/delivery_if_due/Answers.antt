-- The state of Recovery decides when recovery is over, and what remains to be delivered of the old ring.
use Rattle.std.proofs.Common.{◌≡◌, ap, sym, ◌∙◌}
use Rattle.ring_base.specs.declared.state.State.TheVariants.{Recovery}
use Rattle.ring_srp_transitions.proofs.Held.{is_recovery, no_recovery, recovering_some, recovering_none}
use Rattle.ring_srp_transitions.proofs.Installs.{told, told_none, not_ready, all_ready}
use Rattle.ring_srp_transitions.proofs.running_core.RunningCore.delivery_if_due.Goals.{in_default-via-in-Some+else-eq, in_default-via-in_default}
use Rattle.ring_srp_transitions.proofs.running_core.RunningCore.delivery_if_due.Goals as goal

pub returns-then-not-is_ready : goal.returns-then-not-is_ready
returns-then-not-is_ready g c =
    let state = is_recovery c.self.inside.state (sym c.eq.ensures ∙ c.if-eq.true) in
    not_ready _ c.in-Some.recovery_state (recovering_some _ _ _ c.in-Some.is (c.self.invariant.recovery_state state)) state c.is_ready.result c.mark-mark.result
    c.is_ready.ensures c.mark-mark.ensures c.if-not-is_ready.true
    ∙ ap told c.self.view_is

pub returns-else-not-is_ready : goal.returns-else-not-is_ready
returns-else-not-is_ready g c =
    let state = is_recovery c.self.inside.state (sym c.eq.ensures ∙ c.if-eq.true) in
    c.finish.ensures
    ∙ all_ready _ c.in-Some.recovery_state (recovering_some _ _ _ c.in-Some.is (c.self.invariant.recovery_state state)) state c.is_ready.result c.mark-mark.result
    c.is_ready.ensures c.mark-mark.ensures c.if-not-is_ready.false c.self.inside.installed_part.window c.self.invariant.kept.window_is
    ∙ ap told c.self.view_is

pub returns-in_default : goal.returns-in_default
returns-in_default g c =
    let elsewhere : c.self.inside.state ≡ Recovery → ⊥ = elim c.in_default.branch [
      | in_default-via-in-Some+else-eq w ↦ no_recovery c.self.inside.state (sym w.eq.ensures ∙ w.if-eq.false)
      | in_default-via-in_default w ↦ λ e. recovering_none _ _ w.in_default.is (c.self.invariant.recovery_state e)
    ] in
    told_none _ elsewhere ∙ ap told c.self.view_is
