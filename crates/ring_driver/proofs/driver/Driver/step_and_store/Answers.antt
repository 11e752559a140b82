-- A step keeps the node, and the frames that it sends, within the limits.
use Rattle.std.proofs.Common.{◌≡◌, List, subst, sym, ◌∙◌}
use Rattle.ring_order_proof.specs.NodeFits.{NodeFits, SendsFit}
use Rattle.ring_node_spec.specs.Nodes.{Node}
use Rattle.ring_node_spec.specs.Stepping.{node_step}
use Rattle.ring_clock.proofs.Noted.{noted}
use Rattle.ring_clock.specs.StepOutcomes.{installs}
use Rattle.ring_driver.specs.Driving.{DriverView}
use Rattle.ring_driver.proofs.Steps.{stepped}
use Rattle.ring_driver.proofs.driver.Driver.step_and_store.Goals as goal

pub invariant_of-self : goal.invariant_of-self
invariant_of-self g c =
    (subst NodeFits (sym c.in_err-outs.ensures.err) (c.node_fits_law.ensures.stopped c.self.inside.node c.self.invariant.0), c.self.invariant.1)

pub invariant_of-self-2 : goal.invariant_of-self-2
invariant_of-self-2 g c = (
  subst NodeFits (sym c.in_ok-outs.ensures.ok) (c.node_fits_law.ensures.step c.self.inside.node c.args.input c.self.invariant.0 c.requires),
  subst (λ (xs : List _). SendsFit xs) (sym (c.from_vec.ensures.items ∙ c.in_ok-outs.ensures.sends))
      (c.node_fits_law.ensures.sends c.self.inside.node c.args.input c.self.invariant.0 c.requires),
)

pub returns-clause-ok : goal.returns-clause-ok
returns-clause-ok g c =
    let s = c.self.inside in
    let e = c.in_ok-outs.ensures in
    let did = node_step g.O.Object.sequential s.node c.args.input in
    let driven : DriverView _ = record {
      group = s.group;
      node = s.node;
      clock = s.clock;
      sends = s.sends.items;
      committed = s.committed.items;
      dropped = s.dropped.items;
      restored = s.restored;
      has_installed = s.has_installed;
    } in
    let clock = noted c.args.input c.as_slice.result.now did.sends c.timeout_in-timeout.result c.is_token_or_commit_token-is_token.result c.step_outcome.result s.clock
    c.note_step.new.self c.timeout_in-timeout.ensures c.is_token_or_commit_token-is_token.ensures (c.as_slice.ensures.value ∙ e.sends) c.step_outcome.ensures c.note_step.ensures in
    let other = c.are_different_rings-has_installed in
    let installs_new : other.result ≡ installs s.node.core c.step.new.self.core = rw (c.ring-ring_before.ensures, c.ring.ensures) at other.ensures in
    let installed = subst (λ (n : Node _). other.result ≡ installs s.node.core n.core) e.ok installs_new in
    rw (← c.self.view_is) (stepped g.O.Object.sequential driven c.args.input _ _ _ _ _ _ _ e.ok clock (c.from_vec.ensures.items ∙ e.sends)
    (c.from_vec-2.ensures.items ∙ e.committed) (c.from_vec-3.ensures.items ∙ e.dropped) e.restored installed)
