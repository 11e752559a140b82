-- Records are taken one after another, until none is left, one is faulty, its output fails, or there are too many.
use Rattle.std.proofs.Common.{arith}
use Rattle.ring_base.proofs.Results.{value_at_err}
use Rattle.ring_record_node.proofs.Served.{served_none, served_more, served_end, cut_here, cut_full}
use Rattle.ring_record_node.proofs.serving.serve_records.Goals as goal

pub loop-taken-init : goal.loop-taken-init
loop-taken-init g c = served_none g.O.Object.sequential _ _ _

pub loop-taken-preserved : goal.loop-taken-preserved
loop-taken-preserved g c =
    let next = rw c.in-Some.is at c.in_ok-behind.ensures.next in
    served_more g.O.Object.sequential _ _ _ _ _ _ _ _ _ _ _ _ c.loop-taken.invariant next

pub returns-in_err-behind-clause-cut : goal.returns-in_err-behind-clause-cut
returns-in_err-behind-clause-cut g c =
    let failure = c.in_err-behind.field-0.0 in
    value_at_err c.from_residual.result failure _ c.from_residual.ensures.1
    (cut_here g.O.Object.sequential _ _ _ _ _ _ _ _ _ _ failure c.loop-taken.invariant c.in_err-behind.ensures.stop)

pub returns-in-None-clause-served : goal.returns-in-None-clause-served
returns-in-None-clause-served g c =
    let next = rw c.in-None.is at c.in_ok-behind.ensures.next in
    served_end g.O.Object.sequential _ _ _ _ _ _ _ _ _ _ _ c.loop-taken.invariant next

-- There are more records than a u64 counts.
pub returns-clause-cut : goal.returns-clause-cut
returns-clause-cut g c = cut_full g.O.Object.sequential _ _ _ _ _ _ _ _ c.loop-taken.invariant (omega arith)
