-- The greatest number of the nodes so far.
use Rattle.std.proofs.Common.{◌≡◌, take}
use Rattle.ring_base.specs.Numbers.{greatest}
use Rattle.ring_world.specs.Ordering.{effects_of_nodes}
use Rattle.ring_world.proofs.effect_counts.max_effects.Given as goal

abbrev pub invariant-loop-node : goal.invariant-loop-node
invariant-loop-node g l = l.most ≡ greatest (effects_of_nodes g.O.Object.sequential (take l.node-index l.nodes))
