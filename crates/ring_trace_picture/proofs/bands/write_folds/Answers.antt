use Rattle.std.proofs.Common.{rules}
use Rattle.ring_trace_picture.specs.PictureTexts.{IsGrown}
use Rattle.ring_trace_picture.proofs.Growth.{grown_more}
use Rattle.ring_trace_picture.proofs.bands.write_folds.Goals as goal

pub loop-placed-preserved : goal.loop-placed-preserved
loop-placed-preserved g c =
    let step : IsGrown (g.W.Write.contents c.loop-placed.out) (g.W.Write.contents c.match-placed.out) = search rules in
    grown_more _ _ _ c.loop-placed.invariant step
