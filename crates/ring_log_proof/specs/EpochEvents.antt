-- How epochs are extended as cores give outputs and nodes hand over payloads; which calls these contain; and runs.
-- Rules: Outputs 9; The replicated log 1, 2 and 10
use Rattle.std.specs.Prelude.{◌≡◌, ℕ, ◌≤◌, List, [], ◌∷◌, ◌++◌, Contains, Some}
use Rattle.std.specs.List.{AllByRecursion as Each}
use Rattle.ring_base.specs.Prefixes.{IsListPrefix}
use Rattle.ring_base.specs.Group.{Group, IsPrimary}
use Rattle.ring_base.specs.declared.ring_id.RingId.{RingId}
use Rattle.ring_payload.specs.declared.call.Call.{Call as OneCall}
use Rattle.ring_payload.specs.declared.content.Payload.{Payload}
use Rattle.ring_payload.specs.declared.content.Payload.TheVariants.{Call, Wrapped, End, Head, Part, Pack, Snap}
use Rattle.ring_log.specs.Messages.{Message}
use Rattle.ring_log.specs.Epochs.{Epoch, epoch_opening, epochs_with_message, epochs_with_mark, epochs_with_sends, epochs_with_trim}
use Rattle.ring_log.specs.KnownLog.{known_log_of, known_log_head}
use Rattle.ring_log.specs.Exchanges.{exchange_opening}
use Rattle.ring_log.specs.EpochHistories.{CompleteExchange, complete_exchange_from, committed_of}
use Rattle.ring_log_proof.specs.RingFacts.{HasEpoch}
use Rattle.ring_log_proof.specs.Discipline.{FollowsHead, ConsistentEpochs}

-- An epoch and its extension: more was received and handed over, and its mark didn't fall.
pub record IsEpochExtended {A : Type 0} (before after : Epoch A) : Type 0 where
  pub ring : before.ring ≡ after.ring
  pub members : before.members ≡ after.members
  pub heard : IsListPrefix before.heard after.heard
  pub mark : before.mark ≤ after.mark
  pub sent : IsListPrefix before.sent after.sent
  pub trimmed : before.trimmed ≤ after.trimmed
  -- Once an exchange was received whole, the places of the snapshot sent in it are fixed.
  pub front : (w : CompleteExchange A) → complete_exchange_from (exchange_opening before.members) before.heard ≡ Some w → before.front ≡ after.front

-- A node's epochs and their extension: the newest epoch was extended, and newer epochs may come before it; the epochs
-- of rings that it had left are unchanged.
abbrev pub IsEpochsExtended : {A : Type 0} → List (Epoch A) → List (Epoch A) → Type 0
IsEpochsExtended [] after = Unit {0}
IsEpochsExtended {A} (s ∷ older) after = (newer : List (Epoch A)) × (t : Epoch A) × (after ≡ newer ++ t ∷ older) × IsEpochExtended s t

-- Events in a node's epochs

-- A message is agreed, a mark rises, a ring is installed, payloads are handed to the core, or places are dropped,
-- counted from the log's beginning.
pub data EpochEvent (A : Type 0) : Type 0 where
  Agreed : (message : Message A) → EpochEvent A
  Safe : (mark : ℕ) → EpochEvent A
  Regular : (ring : RingId) → (members : ℕ) → EpochEvent A
  Handed : (payloads : List (Payload A)) → EpochEvent A
  Dropped : (places : ℕ) → EpochEvent A

-- The epochs after an event.
abbrev pub epochs_after_event : {A : Type 0} → List (Epoch A) → EpochEvent A → List (Epoch A)
epochs_after_event epochs (Agreed message) = epochs_with_message message epochs
epochs_after_event epochs (Safe mark) = epochs_with_mark mark epochs
epochs_after_event epochs (Regular ring members) = epoch_opening ring members ∷ epochs
epochs_after_event epochs (Handed payloads) = epochs_with_sends payloads epochs
epochs_after_event epochs (Dropped places) = epochs_with_trim places epochs

-- The epochs after events, in their order.
abbrev pub epochs_after_events : {A : Type 0} → List (Epoch A) → List (EpochEvent A) → List (Epoch A)
epochs_after_events epochs [] = epochs
epochs_after_events epochs (e ∷ events) = epochs_after_events (epochs_after_event epochs e) events

-- A mark isn't below the newest epoch's.
abbrev pub IsRaised : {A : Type 0} → List (Epoch A) → ℕ → Type 0
IsRaised [] mark = Unit {0}
IsRaised (s ∷ older) mark = s.mark ≤ mark

-- The places dropped are committed, and no fewer than before.
abbrev pub MayDrop : {A : Type 0} → Group → List (Epoch A) → ℕ → Type 0
MayDrop group [] places = Unit {0}
MayDrop group (s ∷ older) places = (s.trimmed ≤ places) × (places ≤ (known_log_of group (s ∷ older)).committed)

-- The payloads that a node may hand over first: in a primary ring its Head, which reports its log before the ring, and
-- then payloads that may follow a Head.
abbrev pub MaySendFirst : {A : Type 0} → Group → Epoch A → List (Epoch A) → List (Payload A) → Type 0
MaySendFirst group s older [] = Unit {0}
MaySendFirst group s older (payload ∷ rest) = IsPrimary group s.members × (payload ≡ Head (known_log_head (known_log_of group older)))
    × Each (FollowsHead (known_log_of group older)) rest

-- The payloads that a node may hand over after these: once something was handed over, only payloads that may follow a
-- Head.
abbrev pub MaySendAfter : {A : Type 0} → Group → Epoch A → List (Epoch A) → List (Payload A) → List (Payload A) → Type 0
MaySendAfter group s older [] payloads = MaySendFirst group s older payloads
MaySendAfter group s older (x ∷ sent) payloads = Each (FollowsHead (known_log_of group older)) payloads

-- The payloads that a node may hand over in its newest ring.
abbrev pub MaySend : {A : Type 0} → Group → List (Epoch A) → List (Payload A) → Type 0
MaySend group [] payloads = ⊥
MaySend group (s ∷ older) payloads = MaySendAfter group s older s.sent payloads

-- An event that may happen in these epochs: payloads handed over and places dropped keep these rules, and a mark never
-- falls. Nothing is required of a message agreed and of a ring installed.
abbrev pub MayHappen : {A : Type 0} → Group → List (Epoch A) → EpochEvent A → Type 0
MayHappen group epochs (Agreed message) = Unit {0}
MayHappen group epochs (Safe mark) = IsRaised epochs mark
MayHappen group epochs (Regular ring members) = Unit {0}
MayHappen group epochs (Handed payloads) = MaySend group epochs payloads
MayHappen group epochs (Dropped places) = MayDrop group epochs places

-- Each of these events may happen after those before it.
abbrev pub AllMayHappen : {A : Type 0} → Group → List (Epoch A) → List (EpochEvent A) → Type 0
AllMayHappen group epochs [] = Unit {0}
AllMayHappen group epochs (e ∷ events) = MayHappen group epochs e × AllMayHappen group (epochs_after_event epochs e) events

-- Calls

-- The call of this payload is known: in a given set, such as that of the issued calls.
abbrev pub IsKnownCall : {A : Type 0} → (OneCall A → Type 0) → Payload A → Type 0
IsKnownCall Known (Call call) = Known call
IsKnownCall Known (Part part) = Unit {0}
IsKnownCall Known (Head head) = Unit {0}
IsKnownCall Known (Pack pack) = Unit {0}
IsKnownCall Known (Snap snap) = Unit {0}
IsKnownCall Known (Wrapped old) = Unit {0}
IsKnownCall Known End = Unit {0}

-- Each call that an event hands over is known.
abbrev pub SendsKnown : {A : Type 0} → (OneCall A → Type 0) → EpochEvent A → Type 0
SendsKnown Known (Handed payloads) = Each (IsKnownCall Known) payloads
SendsKnown Known (Agreed message) = Unit {0}
SendsKnown Known (Safe mark) = Unit {0}
SendsKnown Known (Regular ring members) = Unit {0}
SendsKnown Known (Dropped places) = Unit {0}

-- Each call that was ever handed over is known.
abbrev pub SendsOnlyKnown : {A : Type 0} → (OneCall A → Type 0) → (ℕ → List (Epoch A)) → Type 0
SendsOnlyKnown {A} Known node_epochs = (p : ℕ) (s : Epoch A) (older : List (Epoch A)) → HasEpoch (node_epochs p) s older → Each (IsKnownCall Known) s.sent

-- Runs

-- A moment of a run: consistent epochs, and the calls issued so far, which include all calls handed over.
pub record ConsistentMoment (A : Type 0) (group : Group) : Type 0 where
  pub now : ConsistentEpochs A group
  pub issued : List (OneCall A)
  pub handed : SendsOnlyKnown (Contains issued) now.node_epochs

-- A later moment: epochs were extended, and more calls may have been issued.
pub record IsNextMoment {A : Type 0} {group : Group} (before after : ConsistentMoment A group) : Type 0 where
  pub node_epochs : (p : ℕ) → IsEpochsExtended (before.now.node_epochs p) (after.now.node_epochs p)
  pub issued : IsListPrefix before.issued after.issued

-- A run from a moment on: each of these moments follows the one before it.
abbrev pub IsOrderlyRun : {A : Type 0} {group : Group} → ConsistentMoment A group → List (ConsistentMoment A group) → Type 0
IsOrderlyRun moment [] = Unit {0}
IsOrderlyRun moment (after ∷ rest) = IsNextMoment moment after × IsOrderlyRun after rest

-- The last moment of a run.
abbrev pub last_of_run : {A : Type 0} {group : Group} → ConsistentMoment A group → List (ConsistentMoment A group) → ConsistentMoment A group
last_of_run moment [] = moment
last_of_run moment (after ∷ rest) = last_of_run after rest

-- The committed places of a processor at a moment.
abbrev pub committed_at : {A : Type 0} {group : Group} → ConsistentMoment A group → ℕ → List (OneCall A)
committed_at {A} {group} moment p = committed_of group (moment.now.node_epochs p)
