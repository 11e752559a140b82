-- The nodes so far are copied.
use Rattle.std.proofs.Common.{◌≡◌, take}
use Rattle.ring_world.proofs.world.copy_nodes.Given as goal

abbrev pub invariant-loop-node : goal.invariant-loop-node
invariant-loop-node g l = l.copies.items ≡ take l.node-index l.nodes
