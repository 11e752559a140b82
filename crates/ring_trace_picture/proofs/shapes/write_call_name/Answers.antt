use Rattle.ring_trace_picture.proofs.Growth.{grown_more, grown_by_at_ok}
use Rattle.ring_trace_picture.proofs.shapes.write_call_name.Goals as goal

pub returns : goal.returns
returns g c =
    grown_by_at_ok _ _ _ c.writeln.result _ (grown_more _ _ _ (_, c.in_ok-write.ensures.bytes) c.in_ok-write_title.ensures) c.writeln.ensures.bytes
