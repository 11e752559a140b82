-- The machine's step is the core's.
use Rattle.std.proofs.Common.{◌≡◌, false, ap, ◌∙◌, subst}
use Rattle.ring_core_spec.specs.State.{Core, is_stopped}
use Rattle.ring_core_spec.specs.Giving.{may_install}
use Rattle.ring_core_spec.specs.Stepping.{ring_step}
use Rattle.ring_core_spec.specs.declared.input.Input.TheVariants.{Timeout}
use Rattle.ring_core_spec.proofs.Quiet.{stepped_is}
use Rattle.ring_srp.specs.Given.{IsGiven}
use Rattle.ring_srp.proofs.Stopping.{runs_as}
use Rattle.ring_srp.proofs.srp.Srp.time_out.Goals as goal

pub invariant_of-self-in-Ok-1 : goal.invariant_of-self-in-Ok-1
invariant_of-self-in-Ok-1 g c =
    ap (λ (x : Core g.row.A.Denot). may_install x) c.in-Ok.ensures.core ∙ stepped_is c.in-Running.running_core (Timeout c.args.kind)

pub returns-in-Ok-clause-given : goal.returns-in-Ok-clause-given
returns-in-Ok-clause-given g c =
    subst (λ (x : Core g.row.A.Denot). IsGiven (ring_step x (Timeout c.args.kind)).outs c.step.new.sends.items c.in-Ok.told.items)
    (runs_as _ c.in-Running.running_core _ c.self.view_is c.in-Running.is) c.in-Ok.ensures.given

pub returns-in-Ok-clause-ok : goal.returns-in-Ok-clause-ok
returns-in-Ok-clause-ok g c = c.in-Ok.ensures.core
    ∙ ap (λ (x : Core g.row.A.Denot). (ring_step x (Timeout c.args.kind)).core) (runs_as _ c.in-Running.running_core _ c.self.view_is c.in-Running.is)

pub returns-in-Ok-clause-running : goal.returns-in-Ok-clause-running
returns-in-Ok-clause-running g c = subst (λ (x : Core g.row.A.Denot). is_stopped x.state ≡ false)
    (runs_as _ c.in-Running.running_core _ c.self.view_is c.in-Running.is) c.in-Ok.ensures.running
