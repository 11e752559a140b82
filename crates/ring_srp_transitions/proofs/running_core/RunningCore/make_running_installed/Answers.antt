-- The state of Recovery exists, and its part is kept.
use Rattle.std.proofs.Common.{◌≡◌, true, ap, sym, ◌∙◌, subst}
use Rattle.ring_core_spec.specs.State.{Core}
use Rattle.ring_core_spec.specs.Giving.{may_install}
use Rattle.ring_srp_transitions.proofs.Installs.{due_in, some_in, into_operational}
use Rattle.ring_srp_transitions.proofs.running_core.RunningCore.make_running_installed.Goals as goal

pub unwrap-recovery_state-requires : goal.unwrap-recovery_state-requires
unwrap-recovery_state-requires g c =
    let due = subst (λ (x : Core g.row.A.Denot). may_install x ≡ true) (sym c.self.view_is) c.requires in
    rw c.take.ensures.value (some_in _ c.self.inside.recovery due c.self.invariant.recovery_state)

pub invariant_of-self : goal.invariant_of-self
invariant_of-self g c =
    rw (c.history_with_install-history.ensures)
    (into_operational c.self.invariant (sym c.take.ensures.value ∙ c.unwrap-recovery_state.ensures)
    (ap (λ (x : Core g.row.A.Denot). x.state) c.self.view_is ∙ due_in c.args.self.now c.requires) c.take.ensures.after)
