-- The copy is the frame.
use Rattle.std.proofs.Common.{◌≡◌, sym, subst}
use Rattle.std.specs.Prelude.{IfOk, OnOk}
use Rattle.ring_wire.specs.declared.frame.Frame.{Frame}
use Rattle.ring_wire.specs.Frames.{FrameFits}
use Rattle.ring_core_spec.specs.Stepping.{ring_step}
use Rattle.ring_srp.specs.Given.{IsGiven}
use Rattle.ring_core_spec.specs.declared.input.Input.TheVariants.{Frame as FrameInput}
use Rattle.ring_srp.proofs.stepping.step_with_frame_copy.Goals as goal

pub step-requires-clause-fits : goal.step-requires-clause-fits
step-requires-clause-fits g c = subst (λ (f : Frame g.row.A.Denot). FrameFits f) (sym c.in_ok-copy.ensures.ok) c.requires.fits

pub returns-clause-given : goal.returns-clause-given
returns-clause-given g c =
    let sends = c.step.new.sends.items in
    subst (λ (f : Frame g.row.A.Denot). IfOk c.step.result (λ told. IsGiven (ring_step c.args.running_core.now (FrameInput f)).outs sends told.items))
    c.in_ok-copy.ensures.ok c.step.ensures.given

pub returns-clause-core : goal.returns-clause-core
returns-clause-core g c =
    subst (λ (f : Frame g.row.A.Denot). OnOk c.step.result (c.step.new.running_core ≡ (ring_step c.args.running_core.now (FrameInput f)).core))
    c.in_ok-copy.ensures.ok c.step.ensures.core
