-- Noise and a stop restore nothing.
use Rattle.std.proofs.Common.{ap, sym, ◌∙◌}
use Rattle.ring_base.proofs.Results.{on-ok}
use Rattle.ring_replica.specs.NodeSpec.{Node, node_known_log, node_step, Input}
use Rattle.ring_node.specs.Restores.{node_restored}
use Rattle.ring_node.proofs.NodeSteps.{none-restored}
use Rattle.ring_node.proofs.node.Node.step_into.Goals as goal

pub returns-in-Noise-clause-restored : goal.returns-in-Noise-clause-restored
returns-in-Noise-clause-restored g c =
    let n = c.args.self.now in
    on-ok c.begin_step-in-Noise.result _ _ (λ _. c.begin_step-in-Noise.ensures.nothing.restored ∙ none-restored (node_known_log n)
    ∙ ap (λ (i : Input _). node_restored n (node_step g.O.Object.sequential n i).node) (sym c.in-Noise.is)) c.begin_step-in-Noise.ensures.ok

pub returns-in_ok-begin_step-in-Stop-clause-restored : goal.returns-in_ok-begin_step-in-Stop-clause-restored
returns-in_ok-begin_step-in-Stop-clause-restored g c =
    let n = c.args.self.now in
    c.begin_step-in-Stop.ensures.nothing.restored ∙ none-restored (node_known_log n)
    ∙ ap (λ (i : Input _). node_restored n (node_step g.O.Object.sequential n i).node) (sym c.in-Stop.is)
