-- The facts of ring cores about the nodes of a world, from which the one order follows.
-- Rules: Outputs 3, 8, 9 and 11; Token and window 13; The replicated log 1
use Rattle.std.specs.Prelude.{◌≡◌, ℕ, ◌⊎◌, List, []}
use Rattle.ring_base.specs.declared.ring_id.RingId.{RingId}
use Rattle.ring_wire.specs.declared.message.Message.{Message}
use Rattle.ring_core_spec.specs.Tokens.{IsSafeIn}
use Rattle.ring_core_spec.specs.Views.{front}
use Rattle.ring_log.specs.EpochHistories.{messages_upto}
use Rattle.ring_node_spec.specs.Worlds.{World}
use Rattle.ring_log_proof.specs.RingFacts.{payloads_from, IsReceivedByAll, RingFacts}
use Rattle.ring_order_proof.specs.RunEpochs.{epochs_in, whole_epochs_in}
use Rattle.ring_order_proof.specs.SentPayloads.{sent_payloads}
use Rattle.ring_order_proof.specs.Texts.{IsText}

-- the facts about the nodes' epochs, with the members and the text of each ring
pub record HasFacts {A : Type 0} (w : World A) : Type 0 where
  pub members : RingId → ℕ
  pub text : RingId → List (Message A)
  -- the user messages that were numbered in the ring, in the order of their numbers
  pub is : (ring : RingId) → IsText (λ q. (w.nodes q).core) ring (text ring)
  -- the facts hold for the epochs as the nodes know them, and for the filled epochs
  pub own : RingFacts (epochs_in w) members text
  pub facts : RingFacts (whole_epochs_in w) members text
  -- the payloads that a processor sent in a text are those that its core sent in its own visits of the ring's token
  pub speech : (p : ℕ) (ring : RingId) → payloads_from p (text ring) ≡ sent_payloads (w.nodes p).core ring
  -- each member received the text up to a number that every member's front has reached
  pub reached : (ring : RingId) (n : ℕ) → IsSafeIn (members ring) (λ q. front (w.nodes q).core ring) n →
      (messages_upto n (text ring) ≡ []) ⊎ IsReceivedByAll (whole_epochs_in w) ring (members ring) (messages_upto n (text ring))
