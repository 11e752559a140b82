use Rattle.std.proofs.Common.{rules}
use Rattle.ring_trace_picture.specs.PictureTexts.{IsGrown}
use Rattle.ring_trace_picture.proofs.Growth.{grown_at_ok}
use Rattle.ring_trace_picture.proofs.lane.write_last_box.Goals as goal

pub returns-then-eq : goal.returns-then-eq
returns-then-eq g c =
    let so_far : IsGrown (g.W.Write.contents c.args.out.now) (g.W.Write.contents c.if-has_column.out) = search rules in
    grown_at_ok _ _ _ c.write_label.result so_far c.write_label.ensures

pub returns : goal.returns
returns g c = grown_at_ok _ _ _ c.write_label-2.result c.in_ok-write_lane_box.ensures c.write_label-2.ensures
