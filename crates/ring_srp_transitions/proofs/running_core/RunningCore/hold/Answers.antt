-- One more message of the ring in use.
use Rattle.std.proofs.Common.{◌≡◌, ◌∷◌, ap, sym, ◌∙◌}
use Rattle.ring_base.specs.declared.state.State.TheVariants.{Recovery}
use Rattle.ring_core_spec.specs.State.{Core}
use Rattle.ring_srp_transitions.proofs.Held.{held_installed, held_running, front_there, mark_there, is_recovery, no_recovery, recovering_there, used_running}
use Rattle.ring_srp_transitions.proofs.running_core.RunningCore.hold.Goals as goal
use Rattle.ring_srp_transitions.proofs.running_core.RunningCore.hold.Given.{Over}
use Rattle.ring_srp_transitions.proofs.running_core.RunningCore.hold.Goals.{Then-eq, in_default-via-in-Some+else-eq, in_default-via-in_default}

-- in Recovery the message is of the running ring
running : (g : Over) (c : Then-eq g) → (c.self.inside.state ≡ Recovery) × (c.args.message.ring ≡ c.self.inside.newest_ring.ring)
running g c =
    let s = is_recovery c.self.inside.state (sym c.eq.ensures ∙ c.if-eq.true) in
    (s, used_running _ c.args.message (rw (sym c.self.view_is) at c.requires.ring) s)

pub take-requires : goal.take-requires
take-requires g c =
    let h = running g (goal.at.take-requires g c).Then-eq in
    let new = rw (sym c.self.view_is) at c.requires.new in
    record {
      front = front_there c.self.invariant c.args.message c.in-Some.recovery_state h.0 c.in-Some.is h.1 new;
      mark = mark_there c.self.invariant c.args.message c.in-Some.recovery_state h.0 c.in-Some.is h.1 new;
    }

pub invariant_of-self : goal.invariant_of-self
invariant_of-self g c =
    let h = running g (goal.at.invariant_of-self g c).Then-eq in
    rw (c.ghost_list_with_first-held.ensures, c.take.ensures)
    (held_running c.self.invariant c.args.message c.in-Some.recovery_state h.0 c.in-Some.is h.1 (rw (sym c.self.view_is) at c.requires.new))

pub invariant_of-self-in_default : goal.invariant_of-self-in_default
invariant_of-self-in_default g c =
    let e = rw (sym c.self.view_is) at c.requires.ring in
    let h = rw (sym c.self.view_is) at c.requires.new in
    elim c.in_default.branch [
      | in_default-via-in-Some+else-eq w ↦
          rw (w.self-inside-is, c.ghost_list_with_first-held.ensures)
          (held_installed c.self.invariant c.args.message
          (no_recovery c.self.inside.state (sym w.eq.ensures ∙ w.if-eq.false)) e h c.take-in_default.new.self _
          (rw w.self-inside-is at c.take-in_default.ensures.window)
          (sym w.in-Some.is ∙ c.self.invariant.over (no_recovery c.self.inside.state (sym w.eq.ensures ∙ w.if-eq.false))))
      | in_default-via-in_default w ↦
          rw (w.self-inside-is, c.ghost_list_with_first-held.ensures)
          (held_installed c.self.invariant c.args.message
          (λ s. recovering_there _ _ (c.self.invariant.recovery_state s) w.in_default.not-Some) e h c.take-in_default.new.self _
          (rw w.self-inside-is at c.take-in_default.ensures.window)
          (c.self.invariant.over (λ s. recovering_there _ _ (c.self.invariant.recovery_state s) w.in_default.not-Some)))
    ]

pub returns-in_default : goal.returns-in_default
returns-in_default g c =
    let more = ap (λ (q : Core g.row.A.Denot). record q { held = c.args.message ∷ q.held }) c.self.view_is in
    elim c.in_default.branch [
      | in_default-via-in-Some+else-eq w ↦ rw (w.self-inside-is, c.ghost_list_with_first-held.ensures) more
      | in_default-via-in_default w ↦ rw (w.self-inside-is, c.ghost_list_with_first-held.ensures) more
    ]
