-- The claims about the epochs of a run's nodes.
-- Safe logs persist; no base lacks committed places; only issued calls are handed over; and each node's snapshot and the
-- places that it keeps follow the one order.
-- Rules: The replicated log 2, 8, 16, 17 and 20
use Rattle.std.specs.Prelude.{◌≡◌, ℕ, ◌≤◌, true, List, ◌++◌, length, take, drop, Some}
use Rattle.std.specs.List.{AllByRecursion as Each}
use Rattle.ring_base.specs.Prefixes.{IsListPrefix}
use Rattle.ring_base.specs.Group.{Group}
use Rattle.ring_base.specs.Rings.{IsBelow}
use Rattle.ring_base.specs.declared.ring_id.RingId.{RingId}
use Rattle.ring_object.specs.Operations.{Sequential, content_after}
use Rattle.ring_payload.specs.declared.call.Call.{Call}
use Rattle.ring_wire.specs.declared.message.Message.{Message}
use Rattle.ring_core_spec.specs.Tokens.{IsSafeIn}
use Rattle.ring_core_spec.specs.Views.{front}
use Rattle.ring_log.specs.Epochs.{Epoch}
use Rattle.ring_log.specs.EpochHistories.{CompleteExchange, messages_upto, complete_exchange, log_of, committed_of, base_of, ring_log, keeps_committed}
use Rattle.ring_log.specs.KnownLog.{known_log_of, keeps_kept}
use Rattle.ring_session.specs.Deduplicated.{deduplicated, deduplicated_after, operations}
use Rattle.ring_session.specs.Snapshots.{KeepsLimits, table_snapshot}
use Rattle.ring_session.specs.Table.{Table, table_after}
use Rattle.ring_session.specs.Tickets.{TicketCall}
use Rattle.ring_node_spec.specs.declared.event.Event.{Event}
use Rattle.ring_node_spec.specs.declared.event.Event.TheVariants.{Issue, Deliver, Noise, Timeout, Stop}
use Rattle.ring_node_spec.specs.Histories.{IsIssuedAt}
use Rattle.ring_node_spec.specs.Nodes.{Node, node_committed, node_trimmed, node_snapshot}
use Rattle.ring_node_spec.specs.Worlds.{World}
use Rattle.ring_log_proof.specs.RingFacts.{HasEpoch, IsReceivedByAll}
use Rattle.ring_log_proof.specs.EpochEvents.{IsKnownCall}
use Rattle.ring_order_proof.specs.RunEpochs.{whole_epochs_in}

-- an issued call is within the limits of a call, as each one from `Call::new` or decoding is; so a snapshot can encode
-- it
abbrev pub IsEventCallWithinLimits : {A : Type 0} → Event A → Type 0
IsEventCallWithinLimits (Issue i c) = KeepsLimits c
IsEventCallWithinLimits (Deliver i k) = Unit {0}
IsEventCallWithinLimits (Noise i bytes) = Unit {0}
IsEventCallWithinLimits (Timeout i kind) = Unit {0}
IsEventCallWithinLimits (Stop i) = Unit {0}

-- a primary ring's log, after a prefix of its text that holds its whole exchange and that all its members received, is a prefix
-- of the base of every later primary ring that has one
abbrev pub SafeLogPersists : {A : Type 0} → Group → (ℕ → List (Epoch A)) → (RingId → ℕ) → (RingId → List (Message A)) → Type 0
SafeLogPersists {A} group node_epochs members text =
    (earlier later : RingId) (safe heard : List (Message A)) (log : List (Call A)) (whole : CompleteExchange A) → IsBelow earlier later →
    IsReceivedByAll node_epochs earlier (members earlier) safe → ring_log group node_epochs earlier (members earlier) safe ≡ Some log →
    IsListPrefix heard (text later) → complete_exchange group (members later) heard ≡ Some whole → IsListPrefix log (base_of group node_epochs later whole.exchange)

-- the same of its log after all of the text up to a number that every member's front has reached
abbrev pub ReachedLogPersists : {A : Type 0} → Group → World A → (RingId → ℕ) → (RingId → List (Message A)) → Type 0
ReachedLogPersists {A} group w members text =
    (earlier later : RingId) (n : ℕ) (heard : List (Message A)) (log : List (Call A)) (whole : CompleteExchange A) → IsBelow earlier later →
    IsSafeIn (members earlier) (λ q. front (w.nodes q).core earlier) n →
    ring_log group (whole_epochs_in w) earlier (members earlier) (messages_upto n (text earlier)) ≡ Some log → IsListPrefix heard (text later) →
    complete_exchange group (members later) heard ≡ Some whole → IsListPrefix log (base_of group (whole_epochs_in w) later whole.exchange)

-- each base that a node adopted begins with the places that it had committed before
abbrev pub BasesKeepCommitted : {A : Type 0} → Group → List (Epoch A) → Type 0
BasesKeepCommitted {A} group epochs =
    (s : Epoch A) (older : List (Epoch A)) → HasEpoch epochs s older →
    keeps_committed (log_of group older) s.front (committed_of group older) (complete_exchange group s.members s.heard) ≡ true

-- the same by the node's known log, which it tests in each step
abbrev pub KeepsCommittedPlaces : {A : Type 0} → Group → List (Epoch A) → Type 0
KeepsCommittedPlaces {A} group epochs =
    (s : Epoch A) (older : List (Epoch A)) → HasEpoch epochs s older → keeps_kept (known_log_of group older) s.ring (complete_exchange group s.members s.heard) ≡ true

-- the history has an issue of this call
abbrev pub IsIssued : {A : Type 0} → World A → Call A → Type 0
IsIssued w c = (k : ℕ) × IsIssuedAt w.history c k

-- each ticket's call was issued, and so was each call that a node handed over
pub record AreOnlyIssuedCalls {A : Type 0} (w : World A) : Type 0 where
  pub tickets : (i : ℕ) → Each (λ (t : TicketCall A). IsIssued w t.call) (w.nodes i).tickets
  pub handed : (i : ℕ) (s : Epoch A) (older : List (Epoch A)) → HasEpoch (w.nodes i).epochs s older → Each (IsKnownCall (IsIssued w)) s.sent

-- a node and its committed places from the log's beginning: its snapshot is of the session table after the dropped places, and
-- the committed places that it keeps come next
pub record HasCommittedPlaces {O A : Type 0} (object : Sequential O) (n : Node A) (committed : List (Call A)) : Type 0 where
  pub dropped : node_trimmed n ≤ length committed
  pub snapshot : node_snapshot object n ≡ table_snapshot object.snapshot_of (table_after object (take (node_trimmed n) committed))
  pub kept : node_committed n ≡ drop (node_trimmed n) committed

-- the calls that a node's snapshot stands for: of its committed places those that it dropped, with repeats removed
abbrev pub dropped_calls : {A : Type 0} → Node A → List (Call A) → List (Call A)
dropped_calls n committed = deduplicated (take (node_trimmed n) committed)

-- a node, its committed places from the log's beginning, and the order: the calls that its snapshot stands for are a prefix of
-- the order, the content in the snapshot is that after them, and its kept calls that take effect after them come next in the order
pub record FollowsOrder {O A : Type 0} (object : Sequential O) (n : Node A) (committed order : List (Call A)) : Type 0 where
  pub stands : IsListPrefix (dropped_calls n committed ++ deduplicated_after (dropped_calls n committed) (node_committed n)) order
  pub table : Table O
  pub snapshot : node_snapshot object n ≡ table_snapshot object.snapshot_of table
  pub content : table.content ≡ content_after object object.initial (operations (dropped_calls n committed))
