-- The payload of the step is a copy of the event's.
use Rattle.std.proofs.Common.{ap, sym, subst, ◌∙◌}
use Rattle.ring_payload.specs.Payloads.{PayloadFits}
use Rattle.ring_core_spec.specs.declared.input.Input.TheVariants.{Send as SendInput}
use Rattle.ring_core_proof.specs.Limits.{EventFits}
use Rattle.ring_core_proof.specs.Worlds.{world_after_event, stepped}
use Rattle.ring_core_world.specs.Running.{world_of}
use Rattle.ring_core_world.proofs.cores.CoreWorld.apply_event.Goals as goal

pub step-requires-clause-fits : goal.step-requires-clause-fits
step-requires-clause-fits g c = subst PayloadFits (sym c.in_ok-payload-in-Send.ensures.ok) (subst EventFits c.in-Send.is c.requires)

pub step-requires-clause-same : goal.step-requires-clause-same
step-requires-clause-same g c =
    let w = world_of c.args.self in
    ap (world_after_event w) c.in-Send.is ∙ ap (λ p. stepped w c.in-Send.node (SendInput p)) (sym c.in_ok-payload-in-Send.ensures.ok)
