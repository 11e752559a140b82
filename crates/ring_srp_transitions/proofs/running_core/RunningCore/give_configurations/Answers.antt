-- The plan exists, and the window of the old ring keeps the messages to deliver.
use Rattle.std.proofs.Common.{◌≡◌, ◌++◌, true, Option, Some, ap, sym, ◌∙◌, subst}
use Rattle.std.specs.Option.{option_copied}
use Rattle.ring_recover.specs.Deliveries.{delivery}
use Rattle.ring_recover.specs.RecoveryState.{RecoveryState as Planned}
use Rattle.ring_core_spec.specs.State.{Core}
use Rattle.ring_core_spec.specs.Views.{plan}
use Rattle.ring_core_spec.specs.Giving.{may_install}
use Rattle.ring_srp_transitions.specs.Installs.{change_outputs}
use Rattle.ring_srp_transitions.specs.RunningCores.{core_of, Recovers, IsRecovering}
use Rattle.ring_srp_state.specs.declared.recovery_state.RecoveryState.{RecoveryState}
use Rattle.ring_srp_transitions.proofs.Installs.{due_in, some_in, first_by}
use Rattle.ring_srp_transitions.proofs.running_core.RunningCore.give_configurations.Goals as goal

pub unwrap-requires : goal.unwrap-requires
unwrap-requires g c =
    let due = subst (λ (x : Core g.row.A.Denot). may_install x ≡ true) (sym c.self.view_is) c.requires.due in
    c.as_ref.ensures.variant ∙ some_in _ c.self.inside.recovery due c.self.invariant.recovery_state

pub returns-clause-ok : goal.returns-clause-ok
returns-clause-ok g c =
    let s = c.self.inside in
    let now = core_of s.me s.fixed.count s.state s.newest_ring s.installed s.gather.gathering s.last_sent s.queue.items s.held.value s.history.value in
    let due = subst (λ (x : Core g.row.A.Denot). may_install x ≡ true) (sym c.self.view_is) c.requires.due in
    let r = c.unwrap.result.now in
    let is : s.recovery ≡ Some r = sym c.as_ref.ensures.value ∙ ap option_copied c.unwrap.ensures in
    let here : Recovers now r = subst (λ (o : Option (RecoveryState g.row.A.Denot)). IsRecovering now o) is (c.self.invariant.recovery_state (due_in now due)) in
    let transitional_members = c.transitional_members-transitional_members.ensures ∙ ap (λ (x : Planned g.row.A.Denot). x.plan.transitional_members) here.plan_is in
    let parts = c.requires.delivery ∙ ap (λ (x : Core g.row.A.Denot). delivery (plan x) x.held) (sym c.self.view_is) in
    first_by now c.args.outs.now.items c.push.new.self.items c.give_rest.new.outs.items c.give_rest-2.new.outs.items c.push-2.new.self.items s.installed_part.window
    c.transitional_members-transitional_members.result c.args.delivery.now
    c.in_ok-push.ensures.items c.in_ok-give_rest.ensures.ok c.in_ok-give_rest-2.ensures.ok c.in_ok-push-2.ensures.items parts transitional_members
    c.self.invariant.kept.window_is here.old_safe
    ∙ ap (λ (x : Core g.row.A.Denot). c.args.outs.now.items ++ change_outputs x) c.self.view_is
