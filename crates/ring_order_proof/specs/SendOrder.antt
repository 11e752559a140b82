-- The payloads that a node's core sent in a ring, and those that the node handed to it during its epoch there.
-- Rules: The replicated log 1 and 2
use Rattle.std.specs.Prelude.{◌≡◌, ◌⊎◌, List, []}
use Rattle.ring_base.specs.Prefixes.{IsListPrefix}
use Rattle.ring_base.specs.declared.ring_id.RingId.{RingId}
use Rattle.ring_log.specs.Epochs.{Epoch}
use Rattle.ring_node_spec.specs.Nodes.{Node}
use Rattle.ring_log_proof.specs.RingFacts.{HasEpoch, EpochIn}
use Rattle.ring_order_proof.specs.SentPayloads.{sent_payloads}

-- the payloads that a node's core sent in a ring are a prefix of those that the node handed to it there; without an epoch there
-- are none
pub record SendsInOrder {A : Type 0} (n : Node A) : Type 0 where
  -- the payloads sent in a ring are a prefix of those handed over there
  pub front : (s : Epoch A) (older : List (Epoch A)) → HasEpoch n.epochs s older → IsListPrefix (sent_payloads n.core s.ring) s.sent
  -- without an epoch of the node, nothing was sent
  pub silent : (ring : RingId) → (sent_payloads n.core ring ≡ []) ⊎ EpochIn n.epochs ring
