use Rattle.ring_trace_picture.specs.PictureTexts.{IsGrown}
use Rattle.ring_trace_picture.proofs.Growth.{grown_more, grown_at_ok}
use Rattle.ring_trace_picture.proofs.shapes.write_ring.Goals.{then-has_members+in_ok-write-2+in_ok-write_set, else-has_members}
use Rattle.ring_trace_picture.proofs.shapes.write_ring.Goals as goal

pub returns : goal.returns
returns g c =
    let named : IsGrown (g.W.Write.contents c.args.out.now) (g.W.Write.contents c.write.new.self) =
    grown_more _ _ _ c.in_ok-write_text_head.ensures (_, c.in_ok-write.ensures.bytes) in
    let so_far : IsGrown (g.W.Write.contents c.args.out.now) (g.W.Write.contents c.if-has_members.out) =
    elim c.if-has_members.branch [
      | then-has_members+in_ok-write-2+in_ok-write_set w ↦ rw w.out-is
          (grown_more _ _ _ named (grown_more _ _ _ (_, w.in_ok-write-2.ensures.bytes) w.in_ok-write_set.ensures))
      | else-has_members w ↦ rw w.out-is named
    ] in
    grown_at_ok _ _ _ c.write_text_end.result so_far c.write_text_end.ensures
