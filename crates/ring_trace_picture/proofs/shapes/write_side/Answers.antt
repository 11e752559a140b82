use Rattle.ring_trace_picture.proofs.Growth.{grown_more, grown_at_ok}
use Rattle.ring_trace_picture.proofs.shapes.write_side.Goals as goal

pub returns : goal.returns
returns g c =
    grown_at_ok _ _ _ c.write_text_end.result (grown_more _ _ _ c.in_ok-write_text_head.ensures c.in_ok-write_set.ensures) c.write_text_end.ensures
