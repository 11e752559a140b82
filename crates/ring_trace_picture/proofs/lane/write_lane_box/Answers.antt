use Rattle.std.proofs.Common.{rules}
use Rattle.ring_trace_picture.specs.PictureTexts.{IsGrown}
use Rattle.ring_trace_picture.proofs.Growth.{grown_at_ok}
use Rattle.ring_trace_picture.proofs.lane.write_lane_box.Goals as goal

pub returns : goal.returns
returns g c =
    let so_far : IsGrown (g.W.Write.contents c.args.out.now) (g.W.Write.contents c.match-lane_box.out) = search rules in
    grown_at_ok _ _ _ c.write_bar.result so_far c.write_bar.ensures
