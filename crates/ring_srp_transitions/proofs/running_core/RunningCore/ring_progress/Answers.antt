-- The window of the installed ring has the front, and the invariant bounds mark and `aru`.
use Rattle.std.proofs.Common.{◌≡◌, ◌≤◌, false, arith, ap, ◌∙◌, subst}
use Rattle.ring_token.specs.Histories.{last_aru}
use Rattle.ring_token.specs.TokenVisits.{visits_in_ring}
use Rattle.ring_core_spec.specs.State.{Core, is_stopped}
use Rattle.ring_core_spec.specs.Views.{front, mark}
use Rattle.ring_srp_transitions.proofs.UsersOfRing.{front_by}
use Rattle.ring_srp_transitions.proofs.running_core.RunningCore.ring_progress.Goals as goal

pub returns-clause-front : goal.returns-clause-front
returns-clause-front g c = c.front.ensures ∙ front_by _ _ _ _ c.self.invariant.kept ∙ ap (λ (x : Core g.row.A.Denot). front x x.installed.ring) c.self.view_is

pub returns-clause-safe : goal.returns-clause-safe
returns-clause-safe g c =
    let is = c.front.ensures ∙ front_by _ _ _ _ c.self.invariant.kept in
    let safe = c.self.invariant.kept.reached in
    subst (λ (x : Core g.row.A.Denot). mark x x.installed.ring ≤ c.front.result) c.self.view_is (omega (arith, is, safe))

pub returns-clause-led : goal.returns-clause-led
returns-clause-led g c =
    let is = c.front.ensures ∙ front_by _ _ _ _ c.self.invariant.kept in
    let led = c.self.invariant.kept.led in
    subst (λ (x : Core g.row.A.Denot). last_aru (visits_in_ring x.installed.ring x.turns) ≤ c.front.result) c.self.view_is (omega (arith, is, led))

pub returns-clause-running : goal.returns-clause-running
returns-clause-running g c = subst (λ (x : Core g.row.A.Denot). is_stopped x.state ≡ false) c.self.view_is c.self.invariant.runs
