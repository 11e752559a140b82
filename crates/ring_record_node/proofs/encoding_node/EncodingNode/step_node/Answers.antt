-- A step keeps the limits, and so do its frames.
use Rattle.std.proofs.Common.{List, subst, sym}
use Rattle.ring_order_proof.specs.NodeFits.{NodeFits, SendsFit}
use Rattle.ring_record_node.proofs.encoding_node.EncodingNode.step_node.Goals as goal

pub invariant_of-self : goal.invariant_of-self
invariant_of-self g c = subst NodeFits (sym c.in_err-outs.ensures.err) (c.node_fits_law.ensures.stopped c.self.inside.node c.self.invariant)

pub invariant_of-self-2 : goal.invariant_of-self-2
invariant_of-self-2 g c =
    subst NodeFits (sym c.in_ok-outs.ensures.ok) (c.node_fits_law.ensures.step c.self.inside.node c.args.input c.self.invariant c.requires)

pub returns-clause-fit : goal.returns-clause-fit
returns-clause-fit g c =
    subst (λ (xs : List _). SendsFit xs) (sym c.in_ok-outs.ensures.sends)
    (c.node_fits_law.ensures.sends c.self.inside.node c.args.input c.self.invariant c.requires)
