-- A message of the ring in use, and in Recovery its inner message.
use contract.BorrowLft.{⊑_meet, ⊑_static, ⊑_refl}
use Rattle.std.proofs.Common.{◌≡◌, ◌∷◌, ap, sym, ◌∙◌}
use Rattle.ring_base.specs.declared.state.State.TheVariants.{Recovery}
use Rattle.ring_core_spec.specs.State.{Core}
use Rattle.ring_core_spec.specs.Transitions.{message_taken}
use Rattle.ring_srp_transitions.proofs.Held.{with_held, held_both, took_both, took_other, front_there, mark_there, is_recovery}
use Rattle.ring_srp_transitions.proofs.Held.{no_recovery, recovering_there, taken_new, taken_used, taken_running}
use Rattle.ring_srp_transitions.proofs.running_core.RunningCore.take.Goals as goal
use Rattle.ring_srp_transitions.proofs.running_core.RunningCore.take.Given.{Over}
use Rattle.ring_srp_transitions.proofs.running_core.RunningCore.take.Goals.{Then-eq, in_default-via-in-Some+else-eq, in_default-via-in_default}

-- in Recovery the message is of the running ring, and new there
running : (g : Over) (c : Then-eq g) → (c.self.inside.state ≡ Recovery) × (c.args.message.ring ≡ c.self.inside.newest_ring.ring)
running g c =
    let s = is_recovery c.self.inside.state (sym c.eq.ensures ∙ c.if-eq.true) in
    (s, taken_running _ c.args.message (rw (sym c.self.view_is) at c.requires) c.self.invariant.same s)

pub take-requires : goal.take-requires
take-requires g c =
    let h = running g (goal.at.take-requires g c).Then-eq in
    let new = taken_new _ c.args.message (rw (sym c.self.view_is) at c.requires) in
    record {
      front = front_there c.self.invariant c.args.message c.in-Some.recovery_state h.0 c.in-Some.is h.1 new;
      mark = mark_there c.self.invariant c.args.message c.in-Some.recovery_state h.0 c.in-Some.is h.1 new;
    }

pub invariant_of-self-then-eq : goal.invariant_of-self-then-eq
invariant_of-self-then-eq g c =
    let h = running g (goal.at.invariant_of-self-then-eq g c).Then-eq in
    rw c.take.ensures
    (held_both c.self.invariant c.args.message c.in-Some.recovery_state c.unwrap_into.new.window c.mark.result c.ghost_step_of_two-held.result.value
    h.0 c.in-Some.is h.1 (taken_new _ c.args.message (rw (sym c.self.view_is) at c.requires))
    c.in_ok-unwrap_into-in-Some.ensures.ok c.mark.ensures c.ghost_step_of_two-held.ensures)

pub ghost_step_of_two-held-requires : goal.ghost_step_of_two-held-requires
ghost_step_of_two-held-requires g c κs within = (
  search (⊑_meet, ⊑_static, ⊑_refl, within.0) depth 60 fits 100000,
  (search (⊑_meet, ⊑_static, ⊑_refl, within.1) depth 60 fits 100000, search (⊑_meet, ⊑_static, ⊑_refl) depth 60 fits 100000),
)

pub hold-requires-clause-ring : goal.hold-requires-clause-ring
hold-requires-clause-ring g c =
    let used = taken_used _ c.args.message (rw (sym c.self.view_is) at c.requires) c.self.invariant.same in
    elim c.in_default.branch [
      | in_default-via-in-Some+else-eq w ↦ rw w.self-is used
      | in_default-via-in_default w ↦ rw w.self-is used
    ]

pub hold-requires-clause-new : goal.hold-requires-clause-new
hold-requires-clause-new g c =
    let new = taken_new _ c.args.message (rw (sym c.self.view_is) at c.requires) in
    elim c.in_default.branch [
      | in_default-via-in-Some+else-eq w ↦ rw w.self-is new
      | in_default-via-in_default w ↦ rw w.self-is new
    ]

pub returns-in_ok-unwrap_into-in-Some-clause-ok : goal.returns-in_ok-unwrap_into-in-Some-clause-ok
returns-in_ok-unwrap_into-in-Some-clause-ok g c =
    let h = running g (goal.at.returns-in_ok-unwrap_into-in-Some-clause-ok g c).Then-eq in
    rw (c.ghost_step_of_two-held.ensures) (took_both c.self.invariant c.args.message c.mark.result h.0 c.mark.ensures
    ∙ ap (λ (q : Core g.row.A.Denot). message_taken q c.args.message) c.self.view_is)

pub returns-in_default-clause-ok : goal.returns-in_default-clause-ok
returns-in_default-clause-ok g c =
    let last = ap (λ (q : Core g.row.A.Denot). message_taken q c.args.message) c.self.view_is in
    elim c.in_default.branch [
      | in_default-via-in-Some+else-eq w ↦
          c.hold.ensures
          ∙ ap (λ (q : Core g.row.A.Denot). with_held q (c.args.message ∷ q.held)) w.self-is
          ∙ took_other _ c.args.message (no_recovery c.self.inside.state (sym w.eq.ensures ∙ w.if-eq.false)) ∙ last
      | in_default-via-in_default w ↦
          c.hold.ensures
          ∙ ap (λ (q : Core g.row.A.Denot). with_held q (c.args.message ∷ q.held)) w.self-is
          ∙ took_other _ c.args.message (λ s. recovering_there _ _ (c.self.invariant.recovery_state s) w.in_default.not-Some) ∙ last
    ]
