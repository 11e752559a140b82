use Rattle.ring_trace_picture.proofs.Growth.{grown_at_ok}
use Rattle.ring_trace_picture.proofs.shapes.write_colour.Goals as goal

pub returns : goal.returns
returns g c = grown_at_ok _ _ _ c.write_text.result c.in_ok-write_box.ensures c.write_text.ensures
