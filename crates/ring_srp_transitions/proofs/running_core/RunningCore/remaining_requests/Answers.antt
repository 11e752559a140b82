-- The window and the visits of the running ring decide which requests remain.
use Rattle.std.proofs.Common.{ℕ, Bool, ap, ◌∙◌, rules}
use mathlib.Core.Path.{fun_ext}
use Rattle.ring_window.specs.Held.{holds}
use Rattle.ring_token.specs.Visits.{requests_left}
use Rattle.ring_core_spec.specs.Views.{mark}
use Rattle.ring_srp_transitions.proofs.Visits.{holds_by, mark_by_visits}
use Rattle.ring_srp_transitions.proofs.running_core.RunningCore.remaining_requests.Goals as goal

pub returns : goal.returns
returns g c =
    let now = c.args.self.now in
    let t = c.args.token.now in
    let p = c.part_in_use-part.result.now in
    let is = c.part_in_use-part.ensures.running c.requires.runs in
    c.requests_left.ensures (holds p.window.held p.window.ring) (λ n r q. search rules)
    ∙ ap (λ m. requests_left m (holds p.window.held p.window.ring) t.requests) (c.safe.ensures ∙ mark_by_visits now p.window p.visit t is c.requires.passes)
    ∙ ap (λ (f : ℕ → Bool). requests_left (mark now t.ring) f t.requests) (fun_ext (λ n. holds_by now p.window p.visit t n is c.requires.passes))
