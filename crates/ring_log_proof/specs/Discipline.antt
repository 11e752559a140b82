-- The payloads that a node hands to its core during an epoch, and the places that it drops there, by its known log; and
-- the places that the snapshots sent replace.
-- Rules: The replicated log 2, 10 and 20
use Rattle.std.specs.Prelude.{◌≡◌, ℕ, ◌-◌, ◌≤◌, List, [], ◌∷◌, take, drop, Some, ◌⊎◌}
use Rattle.std.specs.List.{AllByRecursion as Each}
use Rattle.ring_base.specs.Prefixes.{IsListPrefix}
use Rattle.ring_base.specs.Group.{Group, IsPrimary}
use Rattle.ring_base.specs.declared.ring_id.RingId.{RingId}
use Rattle.ring_payload.specs.declared.content.Payload.{Payload}
use Rattle.ring_payload.specs.declared.content.Payload.TheVariants.{Call, Wrapped, End, Head, Part, Pack, Snap}
use Rattle.ring_log.specs.Messages.{Message}
use Rattle.ring_log.specs.declared.wanted.Wanted.{Wanted}
use Rattle.ring_log.specs.Exchanges.{wanted}
use Rattle.ring_log.specs.Epochs.{Epoch}
use Rattle.ring_log.specs.KnownLog.{KnownLog, known_log_of, known_log_head}
use Rattle.ring_log.specs.EpochHistories.{CompleteExchange, complete_exchange, log_of, older_at}
use Rattle.ring_log_proof.specs.RingFacts.{HasEpoch, RingFacts}

-- A payload that a node with this known log may hand over after its Head: a piece of a snapshot, a Part with places as
-- they are in the log, or a call.
abbrev pub FollowsHead : {A : Type 0} → KnownLog A → Payload A → Type 0
FollowsHead k (Part part) = (k.from ≤ part.first) × IsListPrefix part.calls (drop (part.first - k.from) k.calls)
FollowsHead k (Call call) = Unit {0}
FollowsHead k (Head head) = ⊥
FollowsHead k (Pack pack) = ⊥
FollowsHead k (Snap snap) = Unit {0}
FollowsHead k (Wrapped old) = ⊥
FollowsHead k End = ⊥

-- The ring is primary, and the first payload handed over there is the Head that reports the log before it.
pub record OpensWithHead {A : Type 0} (group : Group) (s : Epoch A) (older : List (Epoch A)) : Type 0 where
  pub primary : IsPrimary group s.members
  pub rest : List (Payload A)
  pub opens : s.sent ≡ Head (known_log_head (known_log_of group older)) ∷ rest
  pub follows : Each (FollowsHead (known_log_of group older)) rest

-- In each epoch, each node handed over nothing, or its Head first.
abbrev pub KeepsDiscipline : {A : Type 0} → Group → (ℕ → List (Epoch A)) → Type 0
KeepsDiscipline {A} group node_epochs = (p : ℕ) (s : Epoch A) (older : List (Epoch A)) → HasEpoch (node_epochs p) s older → (s.sent ≡ []) ⊎ OpensWithHead group s older

-- Epochs in which only committed places were dropped.
abbrev pub DropsOnlyCommitted : {A : Type 0} → Group → List (Epoch A) → Type 0
DropsOnlyCommitted {A} group epochs = (s : Epoch A) (older : List (Epoch A)) → HasEpoch epochs s older → s.trimmed ≤ (known_log_of group (s ∷ older)).committed

-- In every node's epochs only committed places were dropped.
abbrev pub DropsCommitted : {A : Type 0} → Group → (ℕ → List (Epoch A)) → Type 0
DropsCommitted group node_epochs = (p : ℕ) → DropsOnlyCommitted group (node_epochs p)

-- A snapshot that a ring's exchange wants replaces the first places of the log that the owner had before that ring, as
-- many as are wanted.
abbrev pub HasOwnerSnapshots : {A : Type 0} → Group → (ℕ → List (Epoch A)) → Type 0
HasOwnerSnapshots {A} group node_epochs = (p : ℕ) (s : Epoch A) (older : List (Epoch A)) (whole : CompleteExchange A) (w : Wanted) (at : ℕ) → HasEpoch (node_epochs p) s older
    → complete_exchange group s.members s.heard ≡ Some whole → wanted whole.exchange ≡ Some w → w.snapshot ≡ Some at
    → s.front ≡ take at (log_of group (older_at s.ring.seq (node_epochs w.owner)))

-- All three rules, for these epochs.
pub record KeepsRules {A : Type 0} (group : Group) (node_epochs : ℕ → List (Epoch A)) : Type 0 where
  pub epochs_with_sends : KeepsDiscipline group node_epochs
  pub drops : DropsCommitted group node_epochs
  pub fronts : HasOwnerSnapshots group node_epochs

-- The epochs of all processors at one moment, with the members and the text of each ring. They have the ring core's
-- facts, and the nodes have kept their rules.
pub record ConsistentEpochs (A : Type 0) (group : Group) : Type 0 where
  pub node_epochs : ℕ → List (Epoch A)
  pub members : RingId → ℕ
  pub text : RingId → List (Message A)
  pub facts : RingFacts node_epochs members text
  pub discipline : KeepsRules group node_epochs
