-- One more frame is stored.
use Rattle.std.proofs.Common.{◌+◌, sym, subst, refl, arith}
use Rattle.ring_wire.specs.Frames.{encoding_of}
use Rattle.ring_world.specs.StoredFramesView.{HasRoom}
use Rattle.ring_world.proofs.Storing.{kept}
use Rattle.ring_world.proofs.frame_store.FrameStore.append_frame.Goals as goal

pub write-requires-clause-room : goal.write-requires-clause-room
write-requires-clause-room g c =
    let f = c.args.frame.now in
    let short = c.frame_length_law.ensures f (encoding_of f) ((c.encoding_law.ensures f (encoding_of f)).1 (c.requires.fits, refl)) in
    let room = subst (HasRoom 1) (sym c.self.view_is) c.requires.room in
    let b = room.bytes in
    omega (arith, short, b)

pub invariant_of-self : goal.invariant_of-self
invariant_of-self g c =
    let k = c.self.inside in
    kept k.history.value c.sent_frame_added.result.value k.bytes.items c.write.new.out.items k.positions.items c.push_reserved.new.self.items
    (record { from = c.args.from; to = c.args.to; frame = c.args.frame.now })
    (record { start = c.len-start.result; end = c.len-end.result; sender = c.args.from; to = c.args.to })
    c.self.invariant c.requires.fits c.sent_frame_added.ensures c.write.ensures.items c.push_reserved.ensures.items
    c.len-start.ensures.value c.len-end.ensures.value refl refl

pub returns-clause-room : goal.returns-clause-room
returns-clause-room g c = λ many h.
    let f = c.args.frame.now in
    let short = c.frame_length_law.ensures f (encoding_of f) ((c.encoding_law.ensures f (encoding_of f)).1 (c.requires.fits, refl)) in
    let room = subst (HasRoom (many + 1)) (sym c.self.view_is) h in
    let p = room.places in
    let b = room.bytes in
    record { places = omega (arith, p, c.push_reserved.ensures.len, c.push_reserved.ensures.capacity); bytes = omega (arith, b, short, c.write.ensures.room) }
