-- The frame's bytes are at its position.
use Rattle.std.proofs.Common.{◌≡◌, ◌≤◌, length, ap, ◌∙◌, sym, subst}
use Rattle.std.proofs.lemmas.Result.{err_from_is_err_and}
use Rattle.std.specs.Prelude.{slice_range, is_some}
use Rattle.ring_wire.specs.Frames.{encoding_of}
use Rattle.ring_core_spec.specs.State.{frame_at, frame_for}
use Rattle.ring_world.specs.StoredFramesView.{StoredFramesView, position_at}
use Rattle.ring_world.proofs.Storing.{IsFor, for_found, for_missing}
use Rattle.ring_world.proofs.frame_store.FrameStore.decode_if_sent_to.Given.{Over}
use Rattle.ring_world.proofs.frame_store.FrameStore.decode_if_sent_to.Goals.{In-Some}
use Rattle.ring_world.proofs.frame_store.FrameStore.decode_if_sent_to.Goals as goal

found : (g : Over) (c : In-Some g) → IsFor c.self.inside.bytes.items c.in-Some.frame_position
    (frame_for c.args.node (frame_at c.self.inside.history.value c.args.number))
found g c =
    let k = c.self.inside in
    for_found k.history.value k.bytes.items k.positions.items c.self.invariant c.args.node c.args.number c.position_at.result c.in-Some.frame_position
    (ap (λ ms. position_at ms c.args.number) (sym c.deref.ensures.value) ∙ sym c.position_at.ensures) (sym c.position_for.ensures ∙ c.in-Some.is)

pub decode-requires-clause-order : goal.decode-requires-clause-order
decode-requires-clause-order g c = (found g (goal.at.decode-requires-clause-order g c).In-Some).order

pub decode-requires-clause-within : goal.decode-requires-clause-within
decode-requires-clause-within g c =
    subst (λ xs. c.in-Some.frame_position.end ≤ length xs) (sym c.as_slice.ensures) (found g (goal.at.decode-requires-clause-within g c).In-Some).within

pub returns-in_ok-decode-in-Some-clause-is : goal.returns-in_ok-decode-in-Some-clause-is
returns-in_ok-decode-in-Some-clause-is g c =
    let h = found g (goal.at.returns-in_ok-decode-in-Some-clause-is g c).In-Some in
    let there = ap (λ (s : StoredFramesView g.row.A.Denot). frame_for c.args.node (frame_at s.frames c.args.number)) (sym c.self.view_is) ∙ h.there in
    sym (ap is_some there)

pub returns-in_ok-decode-in-Some-clause-placed : goal.returns-in_ok-decode-in-Some-clause-placed
returns-in_ok-decode-in-Some-clause-placed g c =
    let h = found g (goal.at.returns-in_ok-decode-in-Some-clause-placed g c).In-Some in
    let text = slice_range c.as_slice.result.now c.in-Some.frame_position.start c.in-Some.frame_position.end in
    let encoded : text ≡ encoding_of h.frame = ap (λ xs. slice_range xs c.in-Some.frame_position.start c.in-Some.frame_position.end) c.as_slice.ensures ∙ h.encoded in
    let there = ap (λ (s : StoredFramesView g.row.A.Denot). frame_for c.args.node (frame_at s.frames c.args.number)) (sym c.self.view_is) ∙ h.there in
    λ _. c.in_ok-decode-in-Some.ensures h.frame ((c.encoding_law.ensures h.frame text).1 (h.fits, encoded)) ∙ sym there

pub returns-in_err-decode-in-Some-clause-refused : goal.returns-in_err-decode-in-Some-clause-refused
returns-in_err-decode-in-Some-clause-refused g c =
    let h = found g (goal.at.returns-in_err-decode-in-Some-clause-refused g c).In-Some in
    let text = slice_range c.as_slice.result.now c.in-Some.frame_position.start c.in-Some.frame_position.end in
    let encoded : text ≡ encoding_of h.frame = ap (λ xs. slice_range xs c.in-Some.frame_position.start c.in-Some.frame_position.end) c.as_slice.ensures ∙ h.encoded in
    let p = err_from_is_err_and c.from_residual.result c.from_residual.ensures.1 in
    rw (p.1, p.2) (c.in_err-decode-in-Some.ensures h.frame ((c.encoding_law.ensures h.frame text).1 (h.fits, encoded)))

pub returns-in-None : goal.returns-in-None
returns-in-None g c =
    let k = c.self.inside in
    let at = ap (λ ms. position_at ms c.args.number) (sym c.deref.ensures.value) ∙ sym c.position_at.ensures in
    let none = ap (λ (s : StoredFramesView g.row.A.Denot). frame_for c.args.node (frame_at s.frames c.args.number)) (sym c.self.view_is)
    ∙ for_missing k.history.value k.bytes.items k.positions.items c.self.invariant c.args.node c.args.number c.position_at.result
    at (sym c.position_for.ensures ∙ c.in-None.is) in
    record { is = sym (ap is_some none); placed = λ no. absurd (cc no); refused = tt }
