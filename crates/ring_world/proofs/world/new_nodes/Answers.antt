-- One more node is opened.
use Rattle.std.proofs.Common.{◌+◌, ◌≤◌, map, ap, ◌∙◌, arith}
use Rattle.ring_base.specs.Numbers.{numbers_from}
use Rattle.ring_base.proofs.ListPlaces.{row-push}
use Rattle.ring_node_spec.specs.Nodes.{node_opening}
use Rattle.ring_world.proofs.world.new_nodes.Goals as goal

pub loop-before-preserved : goal.loop-before-preserved
loop-before-preserved g c =
    row-push (node_opening c.args.fixed) c.loop-before.nodes.items c.push.new.self.items c.loop-before.before c.in_ok-node.node c.new-me.result
    c.loop-before.invariant c.in_ok-push.ensures.items c.in_ok-node.ensures.ok c.new-me.ensures

pub new-me-requires : goal.new-me-requires
new-me-requires g c =
    let low : 1 ≤ c.loop-before.before + 1 = omega arith in
    let high : c.loop-before.before + 1 ≤ 16 = omega (arith, c.loop-before-test.true, c.requires.few) in
    (low, high)

pub returns-clause-ok : goal.returns-clause-ok
returns-clause-ok g c =
    c.loop-before.invariant ∙ ap (λ n. map (node_opening c.args.fixed) (numbers_from 1 n))
    (omega (arith, c.loop-before-test.false, c.loop-before.auto.before-end))
