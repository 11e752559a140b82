use Rattle.std.proofs.Common.{◌∙◌, sym}
use Rattle.ring_seat.proofs.FramesInOrder.{bytes_found, bytes_missing}
use Rattle.ring_seat.proofs.outbox.Outbox.bytes_at.Goals as goal

pub returns-clause-some : goal.returns-clause-some
returns-clause-some g c =
    bytes_found c.args.self.now.text.items c.args.self.now.frames c.args.index c.text_start-start.result c.in_ok-outbox_frame.outbox_frame
    (sym c.get.ensures ∙ c.in_ok-outbox_frame.was) c.text_start-start.ensures c.get-2.result (rw c.as_slice.ensures at c.get-2.ensures.lookup)

pub returns-clause-none : goal.returns-clause-none
returns-clause-none g c =
    bytes_missing c.args.self.now.text.items c.args.self.now.frames c.args.index c.text_start-start.result c.in_ok-outbox_frame.outbox_frame
    (sym c.get.ensures ∙ c.in_ok-outbox_frame.was) c.text_start-start.ensures c.get-2.result (rw c.as_slice.ensures at c.get-2.ensures.lookup)
