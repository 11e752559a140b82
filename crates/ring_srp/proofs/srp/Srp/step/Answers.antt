-- The machine's step is the core's.
use Rattle.std.proofs.Common.{◌≡◌, false, ap, ◌∙◌, subst}
use Rattle.ring_core_spec.specs.State.{Core, is_stopped}
use Rattle.ring_core_spec.specs.Giving.{may_install}
use Rattle.ring_core_spec.specs.Stepping.{ring_step}
use Rattle.ring_core_spec.proofs.Quiet.{stepped_is}
use Rattle.ring_srp.proofs.Stopping.{runs_as}
use Rattle.ring_srp.proofs.srp.Srp.step.Goals as goal

pub invariant_of-self-in-Ok-1 : goal.invariant_of-self-in-Ok-1
invariant_of-self-in-Ok-1 g c = ap (λ (x : Core g.row.A.Denot). may_install x) c.in-Ok.ensures.core ∙ stepped_is c.in-Running.running_core c.args.input

pub returns-in-Ok-clause-outs : goal.returns-in-Ok-clause-outs
returns-in-Ok-clause-outs g c = c.in-Ok.ensures.outs
    ∙ ap (λ (x : Core g.row.A.Denot). (ring_step x c.args.input).outs) (runs_as _ c.in-Running.running_core _ c.self.view_is c.in-Running.is)

pub returns-in-Ok-clause-ok : goal.returns-in-Ok-clause-ok
returns-in-Ok-clause-ok g c = c.in-Ok.ensures.core
    ∙ ap (λ (x : Core g.row.A.Denot). (ring_step x c.args.input).core) (runs_as _ c.in-Running.running_core _ c.self.view_is c.in-Running.is)

pub returns-in-Ok-clause-running : goal.returns-in-Ok-clause-running
returns-in-Ok-clause-running g c = subst (λ (x : Core g.row.A.Denot). is_stopped x.state ≡ false)
    (runs_as _ c.in-Running.running_core _ c.self.view_is c.in-Running.is) c.in-Ok.ensures.running
