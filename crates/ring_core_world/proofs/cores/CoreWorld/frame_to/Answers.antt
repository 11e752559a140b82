-- Frames are numbered in the order sent.
use Rattle.std.proofs.Common.{◌++◌, Some, ap, sym, ◌∙◌}
use Rattle.ring_core_world.specs.Running.{WorldRun, world_of, frames_of, opening_frames, places_from}
use Rattle.ring_core_spec.specs.State.{frame_at, frame_for}
use Rattle.ring_core_world.proofs.cores.CoreWorld.frame_to.Goals as goal

pub formed_ring_frame-requires : goal.formed_ring_frame-requires
formed_ring_frame-requires g c = c.as_slice-places.ensures.value ∙ c.self.invariant.places_are ∙ ap (places_from 0) (sym c.as_slice-outs.ensures.value)

pub numbered_frame-requires : goal.numbered_frame-requires
numbered_frame-requires g c = c.as_slice-places.ensures.value ∙ c.self.invariant.places_are ∙ ap (places_from 0) (sym c.as_slice-outs.ensures.value)

pub returns-in-Some : goal.returns-in-Some
returns-in-Some g c =
    let k = c.self.inside in
    let i = c.args.node in
    let n = c.args.number in
    let frames = ap (λ os. opening_frames (Some c.in-Some.first) ++ frames_of os) c.as_slice-outs.ensures.value
    ∙ ap (λ f. opening_frames f ++ frames_of k.outs.items) (sym c.in-Some.is)
    ∙ sym c.self.invariant.frames_are ∙ ap (λ (r : WorldRun g.row.A.Denot). (world_of r).frames) c.self.view_is in
    c.formed_ring_frame.ensures ∙ ap (λ fs. frame_for i (frame_at fs n)) frames

pub returns-in-None : goal.returns-in-None
returns-in-None g c =
    let k = c.self.inside in
    let i = c.args.node in
    let n = c.args.number in
    let frames = ap frames_of c.as_slice-outs.ensures.value ∙ ap (λ f. opening_frames f ++ frames_of k.outs.items) (sym c.in-None.is)
    ∙ sym c.self.invariant.frames_are ∙ ap (λ (r : WorldRun g.row.A.Denot). (world_of r).frames) c.self.view_is in
    c.numbered_frame.ensures ∙ ap (λ fs. frame_for i (frame_at fs n)) frames
