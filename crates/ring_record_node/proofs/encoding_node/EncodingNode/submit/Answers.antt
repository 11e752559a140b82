-- The call keeps the limits from its creation on, so the submit does.
use Rattle.std.proofs.Common.{arith}
use Rattle.ring_order_proof.proofs.NodeLimits.{takes}
use Rattle.ring_payload.specs.Calls.{CallFits}
use Rattle.ring_record_node.proofs.PipedSubmits.{not_made, made}
use Rattle.ring_record_node.proofs.encoding_node.EncodingNode.submit.Goals as goal

pub invariant_of-self : goal.invariant_of-self
invariant_of-self g c =
    let call : CallFits c.in_ok-call.call = rw c.in_ok-call.ensures.2 (record {
      client = omega (arith, c.ranges.client.fits);
      number = c.in_ok-call.ensures.1;
      number_fits = omega (arith, c.ranges.number.fits);
      op = c.in_ok-call.ensures.0;
    }) in
    let law = c.node_fits_law.ensures.submit c.self.inside.node c.in_ok-call.call in
    takes c.self.inside.node c.submit.new.self c.in_ok-call.call c.submit.result c.self.invariant law call c.submit.ensures.ok c.submit.ensures.err

pub returns-in_err-call : goal.returns-in_err-call
returns-in_err-call g c =
    let a = c.args in
    not_made g.O.Object.sequential a.self.now a.client a.number a.operation.now c.from_residual.result
    c.in_err-call.field-0.0 c.from_residual.ensures.1 c.in_err-call.ensures

pub returns : goal.returns
returns g c =
    let a = c.args in
    let e = c.submit.ensures in
    rw (← c.self.view_is) (made g.O.Object.sequential c.self.inside.node a.client a.number a.operation.now
    c.submit.new.self c.in_ok-call.call c.submit.result c.in_ok-call.ensures e.ticket e.taken e.ok e.err e.refused)
