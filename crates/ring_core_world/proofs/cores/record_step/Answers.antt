-- A step that was not refused is no error.
use Rattle.std.proofs.Common.{◌≡◌, sym, subst}
use Rattle.std.specs.Prelude.{IfErr}
use Rattle.ring_base.proofs.Results.{ok_always}
use Rattle.ring_base.specs.declared.fault.Fault.TheVariants.{Stopped as StoppedFault}
use Rattle.ring_core_world.proofs.cores.record_step.Goals as goal

pub returns-in-Ok-clause-stopped : goal.returns-in-Ok-clause-stopped
returns-in-Ok-clause-stopped g c =
    ok_always c.record_outputs.result (subst (λ r. IfErr r (λ fault. fault ≡ StoppedFault)) (sym c.in-Ok.is) tt)
