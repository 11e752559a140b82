-- The written bytes encode all outputs of the step, or its refusal.
use Rattle.std.proofs.Common.{rules, ◌≡◌, []}
use Rattle.ring_node_spec.specs.Stepping.{node_step}
use Rattle.ring_record_node.specs.NodeOutputs.{token_fate}
use Rattle.ring_record_node.proofs.NodeOutputs.{step_told, refusal_told}
use Rattle.ring_record_node.proofs.record_node.RecordNode.step_and_write.Goals as goal

pub returns-in-Ok : goal.returns-in-Ok
returns-in-Ok g c =
    let step = node_step g.O.Object.sequential c.args.self.now.node c.args.input in
    let e = c.in-Ok.ensures in
    let fate_is : c.new.result ≡ token_fate c.args.input step.sends = search rules in
    step_told g.O.Object.sequential c.write_step_and_end.result _ _ c.args.self.now c.step.new.self c.args.input
    _ _ _ _ _ _ _ e.acts e.records e.answers e.restored e.committed e.installed e.sends fate_is c.write_step_and_end.ensures

pub returns-in-Err : goal.returns-in-Err
returns-in-Err g c =
    let fate_is : c.new-in-Err.result ≡ token_fate c.args.input [] = search rules in
    refusal_told g.O.Object.sequential c.write_refusal_and_end.result _ _ c.args.self.now c.step.new.self c.args.input
    c.in-Err.fault _ c.in-Err.ensures.refused fate_is c.write_refusal_and_end.ensures
