use Rattle.std.proofs.Common.{ap, subst, sym}
use Rattle.ring_base.proofs.Each.{each-get}
use Rattle.ring_core_spec.specs.State.{OutgoingFrame}
use Rattle.ring_wire.specs.Frames.{FrameFits}
use Rattle.ring_order_proof.specs.Limits.{SentFits}
use Rattle.ring_book_lines.proofs.Puts.{put_gives}
use Rattle.ring_book_lines.proofs.line_frames.put_unencoded.Goals as goal

pub put-requires : goal.put-requires
put-requires g c =
    subst FrameFits (sym (ap (λ (s : OutgoingFrame g.row.A.Denot). s.frame) c.sent.view_is))
    (each-get SentFits c.args.unencoded.now c.args.frame_index c.in-Some.sent.now c.requires (sym c.in-Some.ensures))

pub returns-in-Some : goal.returns-in-Some
returns-in-Some g c =
    rw (← c.in-Some.ensures) (put_gives c.in-Some.sent.now c.sent.inside.frame c.args.out.now.items c.put.new.out.items c.put.result
    (ap (λ (s : OutgoingFrame g.row.A.Denot). s.frame) c.sent.view_is) c.put.ensures.ok c.put.ensures.err c.put.ensures.memory)
