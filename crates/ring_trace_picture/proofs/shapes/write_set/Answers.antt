use Rattle.std.proofs.Common.{rules}
use Rattle.ring_trace_picture.proofs.Growth.{grown_more, grown_by_at_ok}
use Rattle.ring_trace_picture.proofs.shapes.write_set.Goals as goal

pub loop-node-preserved : goal.loop-node-preserved
loop-node-preserved g c =
    (tt, tt, search rules, grown_more _ _ _ c.loop-node.invariant.3 (_, c.in_ok-write-2.ensures.bytes))

pub returns : goal.returns
returns g c =
    grown_by_at_ok _ _ _ c.write-2.result _ (grown_more _ _ _ (_, c.in_ok-write.ensures.bytes) c.loop-node.invariant.3) c.write-2.ensures.bytes
