-- The length of the order, computed from each node's own committed places.
-- Rules: Sessions 10
use Rattle.std.specs.Prelude.{ℕ, List, map}
use Rattle.ring_object.specs.Operations.{Sequential}
use Rattle.ring_node_spec.specs.Nodes.{Node, node_known_log, effects_at}

-- the number of a node's committed calls that took effect, by its sessions
abbrev pub effects_of : {O A : Type 0} → Sequential O → Node A → ℕ
effects_of object n = effects_at object (node_known_log n) (node_known_log n).committed

-- the same for each of the nodes
abbrev pub effects_of_nodes : {O A : Type 0} → Sequential O → List (Node A) → List ℕ
effects_of_nodes object nodes = map (λ (n : Node _). effects_of object n) nodes
