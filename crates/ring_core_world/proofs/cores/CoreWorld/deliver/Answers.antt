-- A frame that was sent to the processor keeps the limits, and is the input of the step.
use Rattle.std.proofs.Common.{option_copied, ap, sym, subst, ◌∙◌}
use Rattle.ring_wire.specs.Frames.{FrameFits}
use Rattle.ring_core_spec.specs.declared.input.Input.TheVariants.{Frame as FrameInput}
use Rattle.ring_core_proof.specs.Limits.{WorldFits}
use Rattle.ring_core_proof.specs.Worlds.{world_after_event, stepped}
use Rattle.ring_core_spec.specs.State.{frame_at}
use Rattle.ring_core_world.specs.Running.{WorldRun, world_of}
use Rattle.ring_core_world.proofs.WorldOfCores.{hands, handed_is, frame_fits}
use Rattle.ring_core_world.proofs.cores.CoreWorld.deliver.Goals as goal

pub record_idle_event-requires : goal.record_idle_event-requires
record_idle_event-requires g c =
    let w = world_of c.args.self in
    ap (world_after_event w) c.requires ∙ handed_is w c.args.node (frame_at w.frames c.args.number)
    ∙ ap (hands w c.args.node) (sym c.frame_to.ensures ∙ ap option_copied c.in-None.is)

pub step-requires-clause-fits : goal.step-requires-clause-fits
step-requires-clause-fits g c =
    let w = world_of c.args.self in
    let fits = subst (λ (r : WorldRun g.row.A.Denot). WorldFits (world_of r)) c.self.view_is c.self.invariant.fits in
    subst FrameFits (sym c.in_ok-frame-in-Some.ensures.ok)
    (frame_fits w c.args.node c.args.number c.in-Some.frame.now fits (sym c.frame_to.ensures ∙ ap option_copied c.in-Some.is))

pub step-requires-clause-same : goal.step-requires-clause-same
step-requires-clause-same g c =
    let w = world_of c.args.self in
    ap (world_after_event w) c.requires ∙ handed_is w c.args.node (frame_at w.frames c.args.number)
    ∙ ap (hands w c.args.node) (sym c.frame_to.ensures ∙ ap option_copied c.in-Some.is)
    ∙ ap (λ frame. stepped w c.args.node (FrameInput frame)) (sym c.in_ok-frame-in-Some.ensures.ok)
