-- A stop leaves the node stopped, whatever it returns.
use Rattle.std.proofs.Common.{subst, sym}
use Rattle.ring_order_proof.specs.NodeFits.{NodeFits}
use Rattle.ring_record_node.proofs.Limits.{halts}
use Rattle.ring_record_node.proofs.encoding_node.EncodingNode.stop_node.Goals as goal

pub invariant_of-self : goal.invariant_of-self
invariant_of-self g c =
    let e = c.step.ensures in
    let stopped = halts g.O.Object.sequential c.self.inside.node c.step.new.self c.step.result e.ok e.err in
    subst NodeFits (sym stopped) (c.node_fits_law.ensures.stopped c.self.inside.node c.self.invariant)

pub returns-clause-stopped : goal.returns-clause-stopped
returns-clause-stopped g c =
    let e = c.step.ensures in
    rw (← c.self.view_is) (halts g.O.Object.sequential c.self.inside.node c.step.new.self c.step.result e.ok e.err)
