use Rattle.std.proofs.Common.{refl, sym, ◌∙◌, slice_get}
use Rattle.ring_seat.specs.declared.outbox.Outbox.{Outbox}
use Rattle.ring_host.proofs.FramesCopied.{one_more}
use Rattle.ring_host.proofs.locked_step.fill_outbox.Goals as goal

pub loop-place-preserved : goal.loop-place-preserved
loop-place-preserved g c =
    let sent = c.args.frames.now in
    let place = c.loop-place.place in
    let old = c.loop-place.outbox in
    let mid : Outbox g.row.A.Denot =
    record { alloc = old.alloc; line = old.line; text = c.append_encoding.new.out; frames = old.frames; dropped = old.dropped } in
    let more =
    one_more sent place c.in-Some.to c.is_ok-is_put.result old mid c.add_frame.new.self refl c.loop-place.invariant.1 c.loop-place.invariant.2
    c.add_frame.ensures.noted c.loop-place.invariant.3 (slice_get sent place) refl (sym c.receivers.ensures ∙ c.in-Some.is) c.append_encoding.result
    c.append_encoding.ensures c.is_ok-is_put.ensures.value in (
      c.add_frame.ensures.line ∙ c.loop-place.invariant.0,
      c.add_frame.ensures.whole more.0,
      c.add_frame.ensures.none,
      more.1,
    )
