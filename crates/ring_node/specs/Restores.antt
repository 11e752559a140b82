-- The places that a node's step restored.
-- Rules: The replicated log 6
use Rattle.std.specs.Prelude.{ℕ, Option}
use Rattle.ring_replica.specs.NodeSpec.{Node, node_known_log}
use Rattle.ring_replica.specs.Replicas.{restored_since}

-- the number of places of the snapshot that a node restored between two states; none if it restored none
abbrev pub node_restored : {A : Type 0} → Node A → Node A → Option ℕ
node_restored old now = restored_since (node_known_log old) (node_known_log now)
