use Rattle.ring_trace_picture.proofs.Growth.{opened_at_ok}
use Rattle.ring_trace_picture.proofs.shapes.write_head.Goals as goal

pub returns : goal.returns
returns g c =
    opened_at_ok _ _ _ c.write_background.result c.args.width c.args.height c.in_ok-write_opening_line.ensures c.write_background.ensures
