-- A core that proposes is a member of the ring.
use Rattle.std.proofs.Common.{List, ◌++◌, refl, ap, sym, ◌∙◌}
use Rattle.ring_core_spec.specs.State.{OutgoingFrame}
use Rattle.ring_core_spec.specs.Giving.{sends_with_receivers}
use Rattle.ring_srp_transitions.proofs.Proposals.{proposed_by, IsDue, due_passes, due_is, due_core, due_sends}
use Rattle.ring_base.proofs.Results.{ok_to}
use Rattle.ring_srp_transitions.proofs.running_core.RunningCore.propose.Given.{Over}
use Rattle.ring_srp_transitions.proofs.running_core.RunningCore.propose.Goals.{After-new}
use Rattle.ring_srp_transitions.proofs.running_core.RunningCore.propose.Goals as goal

-- the token is due
due : (g : Over) (c : After-new g) → IsDue c.args.self.now c.in-Pass.token
due g c =
    due_is _ _ c.self.inside.gather _ _ _ c.in-Pass.token c.self.view_is c.self.invariant.member.0 c.requires c.self.invariant.gather_floor refl
    c.greatest_number-greatest.ensures c.candidates-candidates.ensures c.own_entry.ensures (sym c.in-Pass.is ∙ c.propose.ensures)

pub join_ring-requires : goal.join_ring-requires
join_ring-requires g c =
    let d = due g (goal.at.join_ring-requires g c).After-new in
    rw c.in_ok-boxed-in-Pass.ensures.ok (record { state = d.state; newer = d.newer; member = d.member; some = d.some })

pub returns-in_ok-boxed-in-Pass : goal.returns-in_ok-boxed-in-Pass
returns-in_ok-boxed-in-Pass g c =
    let d = rw (sym c.in_ok-boxed-in-Pass.ensures.ok) at (due g (goal.at.returns-in_ok-boxed-in-Pass g c).After-new) in
    let sends = due_sends c.args.self.now c.in_ok-boxed-in-Pass.boxed d in
    record {
      core = ok_to c.join_ring.result _ _ _ (due_core c.args.self.now c.in_ok-boxed-in-Pass.boxed d) c.join_ring.ensures.core;
      sends = ok_to c.join_ring.result _ _ _ (ap (λ (xs : List (OutgoingFrame g.row.A.Denot)). c.args.sends.now.items ++ sends_with_receivers xs) sends) c.join_ring.ensures.sends;
      refused = c.join_ring.ensures.refused;
    }

pub returns-in_default : goal.returns-in_default
returns-in_default g c =
    let passes = c.propose.ensures ∙ due_passes _ _ c.self.inside.gather _ _ _ c.self.view_is c.requires c.self.invariant.gather_floor refl
    c.greatest_number-greatest.ensures c.candidates-candidates.ensures c.own_entry.ensures in
    absurd (c.in_default.not-Pass (proposed_by c.args.self.now) passes)
