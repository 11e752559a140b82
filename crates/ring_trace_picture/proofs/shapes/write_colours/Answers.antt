use Rattle.ring_trace_picture.proofs.Growth.{grown_more}
use Rattle.ring_trace_picture.proofs.shapes.write_colours.Goals as goal

pub loop-colour-preserved : goal.loop-colour-preserved
loop-colour-preserved g c = grown_more _ _ _ c.loop-colour.invariant c.in_ok-write_colour.ensures
