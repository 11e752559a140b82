use Rattle.std.proofs.Common.{rules, ◌≡◌, ◌≤◌, [], ◌∷◌, ◌++◌, sym}
use Rattle.ring_seat.specs.OutboxFrames.{end_of}
use Rattle.ring_seat.proofs.FramesInOrder.{end_pushed, in_order_pushed}
use Rattle.ring_seat.proofs.outbox_frames.OutboxFrames.push.Goals as goal

pub invariant_of-self-2 : goal.invariant_of-self-2
invariant_of-self-2 g c =
    let frames = c.self.inside.list.items in
    let outbox_frame = c.args.outbox_frame in
    let pushed : c.push.new.self.items ≡ frames ++ outbox_frame ∷ [] = search rules in
    let upto : end_of frames ≤ outbox_frame.end = search rules in
    rw pushed (in_order_pushed 0 frames outbox_frame c.self.invariant.0 upto, sym (end_pushed 0 frames outbox_frame))
