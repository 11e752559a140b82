-- The opening keeps the limits.
use Rattle.std.proofs.Common.{subst, sym, arith}
use Rattle.ring_order_proof.specs.NodeFits.{NodeFits}
use Rattle.ring_record_node.proofs.encoding_node.EncodingNode.new.Goals as goal

pub invariant_of-result : goal.invariant_of-result
invariant_of-result g c =
    let me = c.in_ok-proc.field-0 in
    let low = c.in_ok-proc.ensures.ok in
    subst NodeFits (sym c.in_ok-node.ensures.ok) (c.node_fits_law.ensures.opening c.args.fixed me
    (omega (arith, low.0.0, low.1)) (omega (arith, low.0.1, low.1)) (omega (arith, c.count-count.ensures.in_range)))
