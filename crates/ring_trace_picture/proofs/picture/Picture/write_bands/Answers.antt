use Rattle.ring_trace_picture.proofs.Growth.{grown_more}
use Rattle.ring_trace_picture.proofs.picture.Picture.write_bands.Goals as goal

pub loop-index-preserved : goal.loop-index-preserved
loop-index-preserved g c = grown_more _ _ _ c.loop-index.invariant c.in_ok-write_band.ensures
