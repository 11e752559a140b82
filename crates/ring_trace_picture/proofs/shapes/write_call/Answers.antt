use Rattle.ring_trace_picture.proofs.Growth.{grown_more, grown_at_ok}
use Rattle.ring_trace_picture.proofs.shapes.write_call.Goals as goal

pub returns : goal.returns
returns g c =
    grown_at_ok _ _ _ c.write_arc_end.result
    (grown_more _ _ _ (grown_more _ _ _ (_, c.in_ok-write.ensures.bytes) c.in_ok-write_title.ensures) (_, c.in_ok-writeln.ensures.bytes))
    c.write_arc_end.ensures
