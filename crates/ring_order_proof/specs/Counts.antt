-- The number of places that a node has committed; it is no more than a log may have.
-- Rules: The replicated log 1, 18 and 20
use Rattle.std.specs.Prelude.{◌≡◌, ◌+◌, ◌≤◌, length}
use Rattle.ring_base.specs.Numbers.{max_number}
use Rattle.ring_node_spec.specs.Nodes.{Node, node_known_log, node_trimmed, node_committed}

-- the dropped places and the kept committed ones are all that the node has committed
pub record CountsCommittedPlaces {A : Type 0} (n : Node A) : Type 0 where
  pub sum : node_trimmed n + length (node_committed n) ≡ (node_known_log n).committed
  pub few : (node_known_log n).committed ≤ max_number
