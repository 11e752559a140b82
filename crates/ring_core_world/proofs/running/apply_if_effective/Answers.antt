-- An event that acts is applied, and any other changes nothing.
use Rattle.std.proofs.Common.{◌≡◌, IfOk, subst, sym, ◌∙◌}
use Rattle.ring_core_world.specs.Running.{WorldRun}
use Rattle.ring_core_world.proofs.Acting.{acts_one, acts_none}
use Rattle.ring_core_world.proofs.running.apply_if_effective.Goals as goal

pub returns-then-has_effect-clause-ok : goal.returns-then-has_effect-clause-ok
returns-then-has_effect-clause-ok g c =
    subst (λ (r : WorldRun g.row.A.Denot). IfOk c.apply_event.result (λ after. after ≡ r))
    (acts_one c.args.formed c.args.world c.args.event.now (sym c.has_effect.ensures ∙ c.if-has_effect.true)) c.apply_event.ensures.ok

pub returns-else-has_effect-clause-ok : goal.returns-else-has_effect-clause-ok
returns-else-has_effect-clause-ok g c = acts_none c.args.formed c.args.world c.args.event.now (sym c.has_effect.ensures ∙ c.if-has_effect.false)
