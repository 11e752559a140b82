-- No installation is due after a payload was sent, or where memory was refused.
use Rattle.std.proofs.Common.{◌≡◌, false, subst}
use Rattle.ring_core_spec.specs.State.{Core}
use Rattle.ring_core_spec.specs.Giving.{may_install}
use Rattle.ring_core_spec.specs.Stepping.{ring_step}
use Rattle.ring_core_spec.specs.declared.input.Input.TheVariants.{Send as SendInput}
use Rattle.ring_srp.specs.Stopping.{IsBetweenSteps}
use Rattle.ring_srp.specs.declared.srp.StoppableCore.{StoppableCore}
use Rattle.ring_core_spec.proofs.Quiet.{stepped_is}
use Rattle.ring_base.proofs.Results.{ok_or_err}
use Rattle.ring_srp.proofs.srp.Srp.send.Goals as goal

pub invariant_of-self-2 : goal.invariant_of-self-2
invariant_of-self-2 g c =
    ok_or_err (λ (x : Core g.row.A.Denot). may_install x ≡ false) c.enqueue_if_operational.result c.enqueue_if_operational.new.running_core
    (ring_step c.in-Running.running_core (SendInput c.args.payload)).core c.in-Running.running_core c.enqueue_if_operational.ensures.ok c.enqueue_if_operational.ensures.kept
    (stepped_is c.in-Running.running_core (SendInput c.args.payload))
    (subst (λ (s : StoppableCore g.row.A.Denot). IsBetweenSteps s) c.in-Running.is c.self.invariant)
