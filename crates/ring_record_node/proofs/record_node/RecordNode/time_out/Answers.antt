-- The step's outputs or its refusal are written, unless the output failed before.
use Rattle.std.proofs.Common.{Some, None}
use Rattle.ring_record_node.proofs.NodeOutputs.{timeout_told, timeout_untold, timeout_refused_told}
use Rattle.ring_record_node.proofs.record_node.RecordNode.time_out.Goals as goal

pub returns-in_err-written-in-Ok-clause-timed : goal.returns-in_err-written-in-Ok-clause-timed
returns-in_err-written-in-Ok-clause-timed g c =
    timeout_untold g.O.Object.sequential c.from_residual.result _ _ c.args.self.now c.step.new.self c.in_err-written-in-Ok.field-0.0 c.args.kind None
    c.from_residual.ensures.1 c.in-Ok.ensures.acts

pub returns-in_err-written-in-Err-clause-timed : goal.returns-in_err-written-in-Err-clause-timed
returns-in_err-written-in-Err-clause-timed g c =
    timeout_untold g.O.Object.sequential c.from_residual-in_err-written-in-Err.result _ _ c.args.self.now c.step.new.self c.in_err-written-in-Err.field-0.0
    c.args.kind (Some c.in-Err.fault) c.from_residual-in_err-written-in-Err.ensures.1 c.in-Err.ensures.refused

pub returns-in_ok-written-in-Ok-clause-timed : goal.returns-in_ok-written-in-Ok-clause-timed
returns-in_ok-written-in-Ok-clause-timed g c =
    let e = c.in-Ok.ensures in
    timeout_told g.O.Object.sequential c.write_step.result _ _ c.args.self.now c.step.new.self c.args.kind _ _ _ _ _ e.acts e.records e.answers e.restored
    e.committed e.installed c.write_step.ensures

pub returns-in_ok-written-in-Err-clause-timed : goal.returns-in_ok-written-in-Err-clause-timed
returns-in_ok-written-in-Err-clause-timed g c =
    timeout_refused_told g.O.Object.sequential c.write_refusal.result _ _ c.args.self.now c.step.new.self c.args.kind c.in-Err.fault c.in-Err.ensures.refused
    c.write_refusal.ensures
