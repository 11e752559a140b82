-- Facts about every frame ever sent, by the visits of each ring, and how a move adds to the visits.

-- A message was numbered in one of them, a token was forwarded by one, and a commit token is a hop with the reports
-- of its first members.
use Rattle.std.specs.Prelude.{◌≡◌, ℕ, ◌-◌, ◌*◌, ◌%◌, min, ◌<◌, ◌≤◌, ◌⊎◌, if◌then◌else◌, List, [], ◌∷◌, length}
use Rattle.std.specs.List.{AllByRecursion}
use Rattle.ring_base.specs.Rings.{same_ring}
use Rattle.ring_base.specs.Processors.{only, at, size}
use Rattle.ring_base.specs.declared.ring_id.RingId.{RingId}
use Rattle.ring_wire.specs.declared.commit.CommitToken.{CommitToken}
use Rattle.ring_wire.specs.declared.frame.Frame.{Frame}
use Rattle.ring_wire.specs.declared.frame.Frame.TheVariants.{Message as MessageFrame, Token as TokenFrame, Join as JoinFrame}
use Rattle.ring_wire.specs.declared.frame.Frame.TheVariants.{Commit as CommitFrame}
use Rattle.ring_wire.specs.declared.token.Token.{Token}
use Rattle.ring_core_spec.specs.Tokens.{first_token, VisitBy}
use Rattle.ring_core_spec.specs.Commits.{receiver}
use Rattle.ring_core_spec.specs.State.{Core}
use Rattle.ring_core_proof.specs.Moves.{Move, Idles, Enters, Learns, Visits, Takes, Installs, turn_with}
use Rattle.ring_core_proof.specs.Worlds.{Transmission}
use Rattle.ring_chain_proof.specs.ChainWords.{Chains, IsRingOf, IsGenuine, AreReports}

-- The token

-- the token is the first, or one of the visits forwarded it
abbrev pub HasArrived : {A : Type 0} → RingId → Token → List (VisitBy A) → Type 0
HasArrived ring t [] = first_token ring ≡ t
HasArrived ring t (v ∷ vs) = (v.turn.forwarded ≡ t) ⊎ HasArrived ring t vs

-- Frames

pub record IsHop {A : Type 0} (cores : ℕ → Core A) (from to : ℕ) (k : CommitToken) : Type 0 where
  pub ring_of : IsRingOf cores k.ring k.members
  pub sent_to : to ≡ only (receiver k)
  pub sent_by : from ≡ at k.members ((k.hop - 1) % size k.members)
  pub low : 1 ≤ k.hop
  pub high : k.hop ≤ 2 * size k.members
  pub count : length k.entries ≡ min k.hop (size k.members)
  pub reports : AreReports cores k

pub record IsToken {A : Type 0} (visits : Chains A) (cores : ℕ → Core A) (to : ℕ) (t : Token) : Type 0 where
  pub members : ℕ
  pub ring_of : IsRingOf cores t.ring members
  pub some : 0 < size members
  pub sent_to : to ≡ only (at members (t.number % size members))
  pub token_arrived : HasArrived t.ring t (visits t.ring)

-- the property of each frame ever sent
abbrev pub IsRight : {A : Type 0} → Chains A → (ℕ → Core A) → ℕ → ℕ → Frame A → Type 0
IsRight visits cores from to (MessageFrame x) = IsGenuine visits x
IsRight visits cores from to (TokenFrame t) = IsToken visits cores to t
IsRight visits cores from to (CommitFrame k) = IsHop cores from to k
IsRight visits cores from to (JoinFrame j) = Unit {0}

abbrev pub AreRight : {A : Type 0} → Chains A → (ℕ → Core A) → List (Transmission A) → Type 0
AreRight visits cores frames = AllByRecursion (λ (f : Transmission _). IsRight visits cores f.from f.to f.frame) frames

-- Moves

-- the visits after a move of a processor
abbrev pub visits_with : {A : Type 0} → Chains A → RingId → VisitBy A → Chains A
visits_with visits ring v r = if same_ring ring r then v ∷ visits r else visits r

abbrev pub visits_after : {A : Type 0} → Chains A → ℕ → Core A → Move A → Chains A
visits_after visits i c (Visits t fresh requests again queue) = visits_with visits t.ring (record { who = i; turn = turn_with c t fresh requests })
visits_after visits i c (Idles state gathering last_sent queue sends) = visits
visits_after visits i c (Enters k) = visits
visits_after visits i c (Learns k) = visits
visits_after visits i c (Takes x) = visits
visits_after visits i c Installs = visits
