-- In Operational the part is that of the running ring.
use Rattle.std.proofs.Common.{◌≡◌, ap, sym, ◌∙◌, arith}
use Rattle.ring_base.specs.declared.state.State.TheVariants.{Operational}
use Rattle.ring_core_spec.specs.State.{Core}
use Rattle.ring_srp_transitions.specs.Passing.{token_passed_on}
use Rattle.ring_srp_transitions.proofs.TokenForwarding.{part_ring, part_reached, part_led, passed_is, running_part, installed_on}
use Rattle.ring_srp_transitions.proofs.running_core.RunningCore.pass_in_operational.Given.{Over}
use Rattle.ring_srp_transitions.proofs.running_core.RunningCore.pass_in_operational.Goals.{After-next_cyclic}
use Rattle.ring_srp_transitions.proofs.running_core.RunningCore.pass_in_operational.Goals as goal

-- the state is Operational, and the token is of the running ring
there : (g : Over) (c : After-next_cyclic g) → (c.self.inside.state ≡ Operational) × (c.args.token.now.ring ≡ c.self.inside.newest_ring.ring)
there g c = (
  ap (λ (x : Core g.row.A.Denot). x.state) c.self.view_is ∙ c.requires.state,
  c.requires.ring ∙ sym (ap (λ (x : Core g.row.A.Denot). x.running.ring) c.self.view_is),
)

pub forward_token-requires : goal.forward_token-requires
forward_token-requires g c =
    let h = there g (goal.at.forward_token-requires g c).After-next_cyclic in
    let p = running_part c.self.invariant h.0 in
    (omega arith, (h.1 ∙ sym (part_ring p), (c.requires.number, (c.requires.seq, (c.requires.count, (c.requires.remaining_requests, (part_reached p, part_led p)))))))

pub invariant_of-self : goal.invariant_of-self
invariant_of-self g c =
    let h = there g (goal.at.invariant_of-self g c).After-next_cyclic in
    rw (c.history_with_core_visit.ensures, c.forward_token.ensures.window, c.forward_token.ensures.visit)
    (installed_on c.args.token.now c.args.remaining_requests.now c.args.fresh.now.value c.self.invariant h.0 h.1)

pub returns : goal.returns
returns g c =
    let h = there g (goal.at.returns g c).After-next_cyclic in
    rw (c.history_with_core_visit.ensures, c.forward_token.ensures.visit, c.forward_token.ensures.last_sent, c.singleton-to.ensures.value, c.next_cyclic.ensures.value)
    (passed_is (running_part c.self.invariant h.0) c.args.token.now c.args.remaining_requests.now c.args.fresh.now.value h.1
    ∙ ap (λ (x : Core g.row.A.Denot). token_passed_on x c.args.token.now c.args.remaining_requests.now c.args.fresh.now.value) c.self.view_is)
