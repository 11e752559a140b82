use Rattle.ring_trace_picture.proofs.Growth.{grown_by_at_ok}
use Rattle.ring_trace_picture.proofs.shapes.write_bar.Goals as goal

pub returns : goal.returns
returns g c = grown_by_at_ok _ _ _ c.writeln.result _ c.in_ok-write_box.ensures c.writeln.ensures.bytes
