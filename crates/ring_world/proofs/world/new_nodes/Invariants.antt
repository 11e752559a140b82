-- The nodes up to here are opened.
use Rattle.std.proofs.Common.{◌≡◌, map}
use Rattle.ring_base.specs.Numbers.{numbers_from}
use Rattle.ring_node_spec.specs.Nodes.{node_opening}
use Rattle.ring_world.proofs.world.new_nodes.Given as goal

abbrev pub invariant-loop-before : goal.invariant-loop-before
invariant-loop-before g l = l.nodes.items ≡ map (node_opening l.fixed) (numbers_from 1 l.before)
