-- The visits and the window of the running ring decide whether a token is accepted.
use Rattle.std.proofs.Common.{ap, ◌∙◌}
use Rattle.ring_token.specs.TokenVisits.{is_accepted}
use Rattle.ring_srp_transitions.proofs.OneRingOfCore.{accepted_by}
use Rattle.ring_srp_transitions.proofs.running_core.RunningCore.accepts_token.Goals as goal

pub returns : goal.returns
returns g c =
    let p = c.part_in_use-part.result.now in
    c.accepts.ensures
    ∙ ap (λ n. is_accepted p.visit.ring p.visit.turns n c.args.token.now) c.highest.ensures
    ∙ accepted_by c.args.self.now p.window p.visit c.args.token.now (c.part_in_use-part.ensures.running c.requires)
