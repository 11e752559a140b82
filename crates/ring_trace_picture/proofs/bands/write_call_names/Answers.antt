use Rattle.ring_trace_picture.proofs.Growth.{grown_more}
use Rattle.ring_trace_picture.proofs.bands.write_call_names.Goals.{then-eq+then-has_column+in-Some+in_ok-write_call_name, then-eq+then-has_column+in_default, else-eq}
use Rattle.ring_trace_picture.proofs.bands.write_call_names.Goals as goal

pub loop-arc-preserved : goal.loop-arc-preserved
loop-arc-preserved g c =
    elim c.if-eq.branch [
      | then-eq+then-has_column+in-Some+in_ok-write_call_name w ↦ rw w.out-is
          (grown_more _ _ _ c.loop-arc.invariant w.in_ok-write_call_name.ensures)
      | then-eq+then-has_column+in_default w ↦ rw w.out-is c.loop-arc.invariant
      | else-eq w ↦ rw w.out-is c.loop-arc.invariant
    ]
