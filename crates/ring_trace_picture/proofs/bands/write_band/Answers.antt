use Rattle.ring_trace_picture.proofs.Growth.{grown_by_nothing, grown_more, grown_by_at_ok}
use Rattle.ring_trace_picture.proofs.bands.write_band.Goals as goal

pub loop-before-preserved : goal.loop-before-preserved
loop-before-preserved g c = grown_more _ _ _ c.loop-before.invariant c.in_ok-write_name.ensures

pub loop-before-2-init : goal.loop-before-2-init
loop-before-2-init g c = grown_by_nothing _

pub loop-before-2-preserved : goal.loop-before-2-preserved
loop-before-2-preserved g c =
    grown_more _ _ _ c.loop-before-2.invariant
    (grown_more _ _ _ c.in_ok-write_lane.ensures
    (grown_more _ _ _ c.in_ok-write_arcs.ensures (grown_more _ _ _ c.in_ok-write_call_names.ensures c.in_ok-write_lengths.ensures)))

pub returns : goal.returns
returns g c =
    grown_by_at_ok _ _ _ c.write_end.result _
    (grown_more _ _ _ c.loop-before.invariant
    (grown_more _ _ _ c.in_ok-write_band_head.ensures
    (grown_more _ _ _ c.in_ok-write_folds.ensures
    (grown_more _ _ _ c.loop-before-2.invariant (grown_more _ _ _ c.in_ok-write_walls.ensures c.in_ok-write_feet.ensures)))))
    c.write_end.ensures
