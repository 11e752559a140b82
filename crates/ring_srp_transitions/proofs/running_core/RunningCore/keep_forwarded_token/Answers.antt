-- A ring that runs outside Recovery is installed.
use Rattle.std.proofs.Common.{◌≡◌, inl, inr, ap, sym, ◌∙◌, arith}
use Rattle.ring_base.specs.declared.state.State.TheVariants.{Operational}
use Rattle.ring_core_spec.specs.State.{Core}
use Rattle.ring_srp_transitions.specs.RunningCores.{is_running}
use Rattle.ring_srp_transitions.proofs.TokenForwarding.{running_state}
use Rattle.ring_srp_transitions.proofs.running_core.RunningCore.keep_forwarded_token.Goals as goal

pub pass_in_operational-requires : goal.pass_in_operational-requires
pass_in_operational-requires g c =
    let s = c.self.inside in
    let e : s.state ≡ c.args.self.now.state = ap (λ (x : Core g.row.A.Denot). x.state) c.self.view_is in
    let is : s.state ≡ Operational = elim (running_state s.state (ap is_running e ∙ c.requires.runs)) [
      | inl q ↦ absurd (c.in_default.not-Recovery q)
      | inr q ↦ q
    ] in
    (omega arith, (sym e ∙ is, (c.requires.ring, (c.requires.number, (c.requires.seq, (c.requires.count, c.requires.remaining_requests))))))
