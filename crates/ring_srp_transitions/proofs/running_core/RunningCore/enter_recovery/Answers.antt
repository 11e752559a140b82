-- The plan's safe mark is at most the old ring's front, and there are no facts of the running ring.
use Rattle.std.proofs.Common.{refl, ap, ◌∙◌, sym, subst}
use Rattle.ring_window.specs.Windows.{window_opening}
use Rattle.ring_recover.specs.Plans.{safe}
use Rattle.ring_recover.specs.RecoveryState.{RecoveryState as Recovered, recovery_opening}
use Rattle.ring_core_spec.specs.State.{Core}
use Rattle.ring_srp_transitions.specs.Allowing.{LearnAllowed}
use Rattle.ring_srp_transitions.specs.Learns.{plan_at, safe_at}
use Rattle.ring_srp_transitions.proofs.Learns.{may_forget, recovers, into_recovery}
use Rattle.ring_srp_transitions.proofs.running_core.RunningCore.enter_recovery.Goals as goal

pub forget-requires : goal.forget-requires
forget-requires g c =
    may_forget (rw c.self.view_is at c.self.invariant) c.requires.allowed
    (c.greatest_reported_safe_mark-safe.ensures.value ∙ ap (λ (r : Recovered g.row.A.Denot). safe r.plan) c.requires.plan)

pub invariant_of-self : goal.invariant_of-self
invariant_of-self g c =
    let k = c.args.received.now.value in
    let inside = sym c.self.view_is in
    let allowed = subst (λ (x : Core g.row.A.Denot). LearnAllowed x k) inside c.requires.allowed in
    let is = c.greatest_reported_safe_mark-safe.ensures.value ∙ ap (λ (r : Recovered g.row.A.Denot). safe r.plan) c.requires.plan
    ∙ ap (λ (x : Core g.row.A.Denot). safe_at x k) inside in
    let running = ap (λ (x : Core g.row.A.Denot). window_opening {A = g.row.A.Denot} x.running.ring) inside in
    let planned = ap (λ (x : Core g.row.A.Denot). recovery_opening {A = g.row.A.Denot} x.me (plan_at x k)) inside in
    rw (c.history_with_plan-history.ensures, c.forget.ensures, c.raise_safe_mark.ensures, c.replace.ensures.after, c.replace-2.ensures.after)
    (into_recovery _ c.self.invariant allowed is (recovers _ c.self.invariant allowed is _ (c.requires.window ∙ running) c.new-visit.ensures
    (c.requires.plan ∙ planned) c.new.ensures refl c.new-2.ensures.items))
