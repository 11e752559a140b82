use Rattle.ring_trace_picture.proofs.Growth.{grown_more, grown_by_at_ok}
use Rattle.ring_trace_picture.proofs.bands.write_arcs.Goals.{then-eq+then-arc-band+then-band-to+in_ok-write_call, else-eq}
use Rattle.ring_trace_picture.proofs.bands.write_arcs.Goals as goal

pub loop-arc-preserved : goal.loop-arc-preserved
loop-arc-preserved g c =
    elim c.if-eq.branch [
      | then-eq+then-arc-band+then-band-to+in_ok-write_call w ↦ rw w.out-is (grown_more _ _ _ c.loop-arc.invariant w.in_ok-write_call.ensures)
      | else-eq w ↦ rw w.out-is c.loop-arc.invariant
    ]

pub returns : goal.returns
returns g c =
    grown_by_at_ok _ _ _ c.write_end.result _ (grown_more _ _ _ c.in_ok-write_columns_head.ensures c.loop-arc.invariant) c.write_end.ensures
