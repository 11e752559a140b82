-- Definitions about all cores together: who took part in a ring with which members, the visits of its token, what was
-- numbered in them, what was reported, and what is safe.
-- Rules: Rings and states 14; Token and window 13; The commit token 1
use Rattle.std.specs.Prelude.{◌≡◌, ℕ, ◌<◌, ◌==◌, ◌⊎◌, if◌then◌else◌, List, [], ◌∷◌, Some, slice_get}
use Rattle.ring_base.specs.Processors.{at, size}
use Rattle.ring_base.specs.declared.ring_id.RingId.{RingId}
use Rattle.ring_payload.specs.declared.content.Payload.{Payload}
use Rattle.ring_payload.specs.declared.content.Payload.TheVariants.{Wrapped}
use Rattle.ring_payload.specs.declared.content.Wrapped.{Wrapped as WrappedMessage}
use Rattle.ring_wire.specs.declared.commit.CommitToken.{CommitToken}
use Rattle.ring_wire.specs.declared.entries.CommitEntry.{CommitEntry}
use Rattle.ring_wire.specs.declared.message.Message.{Message}
use Rattle.ring_core_spec.specs.Recoveries.{inner_message}
use Rattle.ring_core_spec.specs.Tokens.{TokenVisit, numbered, VisitBy, AreVisits, IsSafeIn}
use Rattle.ring_core_spec.specs.State.{Core}
use Rattle.ring_core_spec.specs.Views.{front}
use Rattle.ring_core_proof.specs.FactWords.{IsIn, SomeIs}

-- Rings

-- The ring has these members: its representative took part in it with them.
abbrev pub IsRingOf : {A : Type 0} → (ℕ → Core A) → RingId → ℕ → Type 0
IsRingOf cores ring members = IsIn (record { ring = ring; members = members }) (cores ring.rep).rings

-- A processor that takes part in a ring does so with the members that its representative named.
abbrev pub SharesRings : {A : Type 0} → (ℕ → Core A) → Type 0
SharesRings cores = (q : ℕ) (ring : RingId) (members : ℕ) → IsIn (record { ring = ring; members = members }) (cores q).rings → IsRingOf cores ring members

-- Visits of each ring, newest first

-- For each ring the list of its visits.
abbrev pub Chains : Type 0 → Type 0
Chains A = RingId → List (VisitBy A)

-- The visits of processor i in a list.
abbrev pub visits_taken_by : {A : Type 0} → ℕ → List (VisitBy A) → List (TokenVisit A)
visits_taken_by i [] = []
visits_taken_by i (v ∷ vs) = if v.who == i then v.turn ∷ visits_taken_by i vs else visits_taken_by i vs

-- The members of a ring with visits are known, and its visits follow each other.
pub record IsRound {A : Type 0} (cores : ℕ → Core A) (ring : RingId) (visits : List (VisitBy A)) : Type 0 where
  pub members : ℕ
  pub ring_of : IsRingOf cores ring members
  pub some : 0 < size members
  pub visits_are : AreVisits members ring visits

-- Text

-- The message was numbered by its sender in one of the visits.
abbrev pub IsGenuine : {A : Type 0} → Chains A → Message A → Type 0
IsGenuine visits x = SomeIs (λ (v : VisitBy _). IsIn x (numbered x.ring v.who v.turn.received.seq v.turn.fresh)) (visits x.ring)

-- The message that a payload wraps, if any, is genuine.
abbrev pub WrapsGenuine : {A : Type 0} → Chains A → Payload A → Type 0
WrapsGenuine {A} visits p = (w : WrappedMessage A) → p ≡ Wrapped w → IsGenuine visits (inner_message w)

-- Reports

-- The entries of a commit token are the reports of its first members.
abbrev pub AreReports : {A : Type 0} → (ℕ → Core A) → CommitToken → Type 0
AreReports cores k = (x : ℕ) (e : CommitEntry) → slice_get k.entries x ≡ Some e → IsIn (record { ring = k.ring; entry = e }) (cores (at k.members x)).reports

-- Safety

-- Each member of the ring holds all its numbers up to s.
abbrev pub IsSafe : {A : Type 0} → (ℕ → Core A) → RingId → ℕ → Type 0
IsSafe cores ring s = (s ≡ 0) ⊎ ((members : ℕ) × IsRingOf cores ring members × IsSafeIn members (λ q. front (cores q) ring) s)
