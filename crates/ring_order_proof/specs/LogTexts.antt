-- A node's log and its committed places, in terms of the texts of rings.
-- Rules: The replicated log 16
use Rattle.std.specs.Prelude.{◌≡◌, ℕ, ◌≤◌, ◌⊎◌, List, [], length, take, Option, Some, None}
use Rattle.ring_base.specs.Group.{Group}
use Rattle.ring_base.specs.declared.ring_id.RingId.{RingId}
use Rattle.ring_payload.specs.declared.call.Call.{Call}
use Rattle.ring_wire.specs.declared.message.Message.{Message}
use Rattle.ring_core_spec.specs.Giving.{user_messages_between}
use Rattle.ring_core_spec.specs.Views.{front, mark}
use Rattle.ring_log.specs.Epochs.{Epoch}
use Rattle.ring_log.specs.declared.wanted.Wanted.{Wanted}
use Rattle.ring_log.specs.Exchanges.{wanted}
use Rattle.ring_log.specs.EpochHistories.{CompleteExchange, complete_exchange, log_of, older_at, ring_log}
use Rattle.ring_log_proof.specs.RingFacts.{EpochIn}
use Rattle.ring_order_proof.specs.RunEpochs.{whole_epochs_in}
use Rattle.ring_node_spec.specs.Worlds.{World}

module _ {A : Type 0} (group : Group) (w : World A) (i : ℕ) where
  -- the text of a ring up to a number that the node's front there has reached: the user messages with numbers up to it
  abbrev pub text_upto : RingId → ℕ → List (Message A)
  text_upto ring n = user_messages_between (w.nodes i).core ring 0 n

  -- The node has installed the ring; after its text up to a number, the ring has this log: its base, and the calls after the
  -- exchange.
  pub record HasRingLog (ring : RingId) (n : ℕ) (log : List (Call A)) : Type 0 where
    pub at : EpochIn (whole_epochs_in w i) ring
    pub is : ring_log group (whole_epochs_in w) ring at.epoch.members (text_upto ring n) ≡ Some log

  -- the ring's log after all of its text that the node has; if there is one, the node has adopted the ring
  abbrev pub HasFrontLog : RingId → List (Call A) → Type 0
  HasFrontLog ring log = HasRingLog ring (front (w.nodes i).core ring) log

  -- the ring's log after the text that the node knows as safe
  abbrev pub HasSafeLog : RingId → List (Call A) → Type 0
  HasSafeLog ring log = HasRingLog ring (mark (w.nodes i).core ring) log

  -- the log of the greatest ring that the node has adopted
  pub record IsNewestLog (log : List (Call A)) : Type 0 where
    pub ring : RingId
    pub is : HasFrontLog ring log
    pub newest : (other : RingId) (its : List (Call A)) → HasFrontLog other its → other.seq ≤ ring.seq

  -- the node's log: empty if it has adopted no ring
  abbrev pub IsLogText : List (Call A) → Type 0
  IsLogText log = IsNewestLog log ⊎ (((other : RingId) (its : List (Call A)) → HasFrontLog other its → ⊥) × (log ≡ []))

  -- The node has adopted the ring, and a snapshot was sent there; it replaces the first places of its sender's log
  -- before.
  pub record HasRestored (ring : RingId) (calls : List (Call A)) : Type 0 where
    pub at : EpochIn (whole_epochs_in w i) ring
    pub whole : CompleteExchange A
    pub exch : complete_exchange group at.epoch.members (text_upto ring (front (w.nodes i).core ring)) ≡ Some whole
    pub v : Wanted
    pub wants : wanted whole.exchange ≡ Some v
    pub places : ℕ
    pub snapshot : v.snapshot ≡ Some places
    pub is : calls ≡ take places (log_of group (older_at ring.seq (whole_epochs_in w v.owner)))

  -- the committed places: the longest of the safe parts of rings' logs and of the places of such snapshots; empty if there is
  -- none
  pub record AreCommittedTexts (calls : List (Call A)) : Type 0 where
    pub is : (calls ≡ []) ⊎ (((ring : RingId) × HasSafeLog ring calls) ⊎ ((ring : RingId) × HasRestored ring calls))
    pub longest : (ring : RingId) (its : List (Call A)) → HasSafeLog ring its → length its ≤ length calls
    pub restored : (ring : RingId) (its : List (Call A)) → HasRestored ring its → length its ≤ length calls
