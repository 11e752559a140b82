-- The messages that the window may forget are deferred first.
use Rattle.std.proofs.Common.{◌≡◌, Some, ap, sym, ◌∙◌, arith}
use Rattle.ring_base.specs.declared.state.State.TheVariants.{Recovery}
use Rattle.ring_core_spec.specs.State.{Core}
use Rattle.ring_srp_state.specs.declared.recovery_state.RecoveryState.{RecoveryState}
use Rattle.ring_srp_transitions.specs.RunningCores.{core_of, Recovers}
use Rattle.ring_srp_transitions.specs.Passing.{token_passed_on}
use Rattle.ring_srp_transitions.proofs.Held.{recovering_some, recovering_there}
use Rattle.ring_srp_transitions.proofs.TokenForwarding.{part_ring, part_reached, part_led, passed_is, deferred_near, deferred_there, recovers_deferred, deferred_on, running_on}
use Rattle.ring_srp_transitions.proofs.running_core.RunningCore.pass_in_recovery.Given.{Over}
use Rattle.ring_srp_transitions.proofs.running_core.RunningCore.pass_in_recovery.Goals.{After-next_cyclic}
use Rattle.ring_srp_transitions.proofs.running_core.RunningCore.pass_in_recovery.Goals as goal

-- the state is Recovery, the token is of the running ring, and the state of Recovery is the core's
there : (g : Over) (c : After-next_cyclic g) → let s = c.self.inside in record {
  state : s.state ≡ Recovery;
  ring : c.args.token.now.ring ≡ s.newest_ring.ring;
  recovers : (r : RecoveryState g.row.A.Denot) → s.recovery ≡ Some r
      → Recovers (core_of s.me s.fixed.count s.state s.newest_ring s.installed s.gather.gathering s.last_sent s.queue.items s.held.value s.history.value) r;
}
there g c =
    let is = ap (λ (x : Core g.row.A.Denot). x.state) c.self.view_is ∙ c.requires.state in
    record {
      state = is;
      ring = c.requires.ring ∙ sym (ap (λ (x : Core g.row.A.Denot). x.running.ring) c.self.view_is);
      recovers = λ r e. recovering_some _ _ r e (c.self.invariant.recovery_state is);
    }

pub defer_messages-requires : goal.defer_messages-requires
defer_messages-requires g c =
    let m = (there g (goal.at.defer_messages-requires g c).After-next_cyclic).recovers c.in-Some.recovery_state c.in-Some.is in
    record { mark = deferred_near m; deferred = deferred_there m }

pub invariant_of-self : goal.invariant_of-self
invariant_of-self g c =
    let h = there g (goal.at.invariant_of-self g c).After-next_cyclic in
    deferred_on c.self.invariant h.state (recovers_deferred (h.recovers c.in-Some.recovery_state c.in-Some.is) c.defer_messages.ensures.more)

pub forward_token-requires : goal.forward_token-requires
forward_token-requires g c =
    let h = there g (goal.at.forward_token-requires g c).After-next_cyclic in
    let p = (recovers_deferred (h.recovers c.in-Some.recovery_state c.in-Some.is) c.defer_messages.ensures.more).part in
    (omega arith, (h.ring ∙ sym (part_ring p), (c.requires.number, (c.requires.seq, (c.requires.count, (c.requires.remaining_requests, (part_reached p, part_led p)))))))

pub invariant_of-self-in-Some : goal.invariant_of-self-in-Some
invariant_of-self-in-Some g c =
    let h = there g (goal.at.invariant_of-self-in-Some g c).After-next_cyclic in
    let now = recovers_deferred (h.recovers c.in-Some.recovery_state c.in-Some.is) c.defer_messages.ensures.more in
    rw (c.history_with_core_visit.ensures, c.forward_token.ensures.window, c.forward_token.ensures.visit)
    (running_on c.args.token.now c.args.remaining_requests.now c.args.fresh.now.value c.self.invariant h.state now c.in_ok-defer_messages.ensures.all h.ring)

pub returns-in_ok-defer_messages-clause-core : goal.returns-in_ok-defer_messages-clause-core
returns-in_ok-defer_messages-clause-core g c =
    let h = there g (goal.at.returns-in_ok-defer_messages-clause-core g c).After-next_cyclic in
    let p = (recovers_deferred (h.recovers c.in-Some.recovery_state c.in-Some.is) c.defer_messages.ensures.more).part in
    rw (c.history_with_core_visit.ensures, c.forward_token.ensures.visit, c.forward_token.ensures.last_sent, c.singleton-to.ensures.value, c.next_cyclic.ensures.value)
    (passed_is p c.args.token.now c.args.remaining_requests.now c.args.fresh.now.value h.ring
    ∙ ap (λ (x : Core g.row.A.Denot). token_passed_on x c.args.token.now c.args.remaining_requests.now c.args.fresh.now.value) c.self.view_is)

pub returns-in_default-clause-core : goal.returns-in_default-clause-core
returns-in_default-clause-core g c =
    let h = there g (goal.at.returns-in_default-clause-core g c).After-next_cyclic in
    absurd (recovering_there _ _ (c.self.invariant.recovery_state h.state) c.in_default.not-Some)
