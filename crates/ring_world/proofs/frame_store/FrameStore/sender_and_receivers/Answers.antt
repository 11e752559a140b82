-- Each position has its frame's sender and receivers.
use Rattle.std.proofs.Common.{ap, ◌∙◌, sym}
use Rattle.std.specs.Prelude.{option_map}
use Rattle.ring_core_spec.specs.State.{Transmission, frame_at}
use Rattle.ring_world.specs.StoredFramesView.{StoredFramesView, position_at}
use Rattle.ring_world.proofs.Storing.{number_found, number_missing, ends_are}
use Rattle.ring_world.proofs.frame_store.FrameStore.sender_and_receivers.Goals as goal

pub returns-in-Some : goal.returns-in-Some
returns-in-Some g c =
    let k = c.self.inside in
    let at = ap (λ ms. position_at ms c.args.number) (sym c.deref.ensures.value) ∙ sym c.position_at.ensures ∙ c.in-Some.is in
    ends_are k.bytes.items c.in-Some.frame_position (frame_at k.history.value c.args.number)
    (number_found k.history.value k.bytes.items k.positions.items c.args.number c.in-Some.frame_position c.self.invariant at)
    ∙ ap (λ (s : StoredFramesView g.row.A.Denot). option_map (λ (f : Transmission g.row.A.Denot). (f.from, f.to)) (frame_at s.frames c.args.number)) c.self.view_is

pub returns-in-None : goal.returns-in-None
returns-in-None g c =
    let k = c.self.inside in
    let at = ap (λ ms. position_at ms c.args.number) (sym c.deref.ensures.value) ∙ sym c.position_at.ensures ∙ c.in-None.is in
    ap (option_map (λ (f : Transmission g.row.A.Denot). (f.from, f.to)))
    (sym (number_missing k.history.value k.bytes.items k.positions.items c.args.number c.self.invariant at))
    ∙ ap (λ (s : StoredFramesView g.row.A.Denot). option_map (λ (f : Transmission g.row.A.Denot). (f.from, f.to)) (frame_at s.frames c.args.number)) c.self.view_is
