-- The guarantees of the ring core that the logs need, about the epochs of all processors at one moment. They say
-- nothing of frames, tokens, windows and votes.
-- Rules: Outputs 3, 8, 9 and 11; Rings and states 2 and 7
use Rattle.std.specs.Prelude.{◌≡◌, ℕ, ◌<◌, ◌==◌, if◌then◌else◌, List, [], ◌∷◌, ◌++◌, ◌⊎◌}
use Rattle.std.specs.List.{AllByRecursion as Each}
use Rattle.ring_base.specs.Prefixes.{IsListPrefix}
use Rattle.ring_base.specs.Processors.{IsMember}
use Rattle.ring_base.specs.declared.ring_id.RingId.{RingId}
use Rattle.ring_payload.specs.declared.content.Payload.{Payload}
use Rattle.ring_payload.specs.PayloadKinds.{unpacked_payloads}
use Rattle.ring_log.specs.Messages.{Message}
use Rattle.ring_log.specs.Epochs.{Epoch}
use Rattle.ring_log.specs.EpochHistories.{messages_upto}

-- The epochs of one node

-- The epochs include `s`, and those before it are `older`.
abbrev pub HasEpoch : {A : Type 0} → List (Epoch A) → Epoch A → List (Epoch A) → Type 0
HasEpoch [] s older = ⊥
HasEpoch (t ∷ before) s older = ((t ≡ s) × (before ≡ older)) ⊎ HasEpoch before s older

-- An epoch in this ring, with those before it.
pub record EpochIn {A : Type 0} (epochs : List (Epoch A)) (r : RingId) : Type 0 where
  pub epoch : Epoch A
  pub older : List (Epoch A)
  pub there : HasEpoch epochs epoch older
  pub ring : epoch.ring ≡ r

-- Each ring has a greater number than those before it.
abbrev pub Rises : {A : Type 0} → List (Epoch A) → Type 0
Rises [] = Unit {0}
Rises (s ∷ older) = Each (λ (t : Epoch _). t.ring.seq < s.ring.seq) older × Rises older

-- Each bound is above the numbers of all rings of its node.
abbrev pub AreAbove : {A : Type 0} → (ℕ → List (Epoch A)) → (ℕ → ℕ) → Type 0
AreAbove {A} node_epochs bounds = (p : ℕ) (s : Epoch A) (older : List (Epoch A)) → HasEpoch (node_epochs p) s older → s.ring.seq < bounds p

-- Texts

-- The payloads that a processor sent among these messages, as they were handed over: the calls of a Pack one by one.
abbrev pub payloads_from : {A : Type 0} → ℕ → List (Message A) → List (Payload A)
payloads_from p [] = []
payloads_from p (x ∷ xs) = (if x.sender == p then unpacked_payloads x.payload else []) ++ payloads_from p xs

-- The messages of an epoch that are known to be safe.
abbrev pub safe_part : {A : Type 0} → Epoch A → List (Message A)
safe_part s = messages_upto s.mark s.heard

-- Each member of the ring received these messages there, before all others.
abbrev pub IsReceivedByAll : {A : Type 0} → (ℕ → List (Epoch A)) → RingId → ℕ → List (Message A) → Type 0
IsReceivedByAll node_epochs r members xs = (p : ℕ) → IsMember members p → (at : EpochIn (node_epochs p) r) × IsListPrefix xs at.epoch.heard

-- The facts, given the members and the text of each ring. A processor that isn't in the run has no epochs.
pub record RingFacts {A : Type 0} (node_epochs : ℕ → List (Epoch A)) (members : RingId → ℕ) (text : RingId → List (Message A)) : Type 0 where
  -- The numbers of the rings that a processor installs rise.
  pub rises : (p : ℕ) → Rises (node_epochs p)
  -- A ring's name determines its members, in the epochs of all nodes.
  pub one_set : (p : ℕ) (s : Epoch A) (older : List (Epoch A)) → HasEpoch (node_epochs p) s older → s.members ≡ members s.ring
  -- A processor is a member of each ring that it installs.
  pub own : (p : ℕ) (s : Epoch A) (older : List (Epoch A)) → HasEpoch (node_epochs p) s older → IsMember s.members p
  -- The messages agreed in an epoch belong to its ring, and are a prefix of the ring's text of user messages.
  pub heard : (p : ℕ) (s : Epoch A) (older : List (Epoch A)) → HasEpoch (node_epochs p) s older → IsListPrefix s.heard (text s.ring)
  pub named : (r : RingId) → Each (λ (x : Message A). x.ring ≡ r) (text r)
  -- The payloads that a processor sent in a ring are a prefix of those handed over during its epoch there; without an
  -- epoch there, it sent nothing.
  pub said : (p : ℕ) (r : RingId) → (payloads_from p (text r) ≡ []) ⊎ ((at : EpochIn (node_epochs p) r) × IsListPrefix (payloads_from p (text r)) at.epoch.sent)
  -- Each member of a ring received the messages there that are safe in it.
  pub safe : (p : ℕ) (s : Epoch A) (older : List (Epoch A)) → HasEpoch (node_epochs p) s older → (safe_part s ≡ []) ⊎ IsReceivedByAll node_epochs s.ring s.members (safe_part s)
