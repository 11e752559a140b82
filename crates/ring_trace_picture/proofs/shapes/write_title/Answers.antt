use Rattle.ring_trace_picture.proofs.Growth.{grown_more, grown_by_at_ok}
use Rattle.ring_trace_picture.proofs.shapes.write_title.Goals as goal

pub loop-letter-preserved-in-Continue-branch-2 : goal.loop-letter-preserved-in-Continue-branch-2
loop-letter-preserved-in-Continue-branch-2 g c = grown_more _ _ _ c.loop-letter.invariant (_, c.in_ok-write-in-38.ensures.bytes)

pub loop-letter-preserved-in-Continue-branch-3 : goal.loop-letter-preserved-in-Continue-branch-3
loop-letter-preserved-in-Continue-branch-3 g c = grown_more _ _ _ c.loop-letter.invariant (_, c.in_ok-write-in-60.ensures.bytes)

pub loop-letter-preserved : goal.loop-letter-preserved
loop-letter-preserved g c = grown_more _ _ _ c.loop-letter.invariant (_, c.in_ok-write-in_default.ensures.bytes)

pub returns : goal.returns
returns g c =
    grown_by_at_ok _ _ _ c.write-2.result _ (grown_more _ _ _ (_, c.in_ok-write.ensures.bytes) c.loop-letter.invariant) c.write-2.ensures.bytes
