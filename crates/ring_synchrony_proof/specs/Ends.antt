-- What every core knows of the messages that it sent and of the Ends that it holds. After its own End in a ring it
-- sends only user messages. Each of these, and each report of a ring, comes after every member's End. Before its End it
-- wraps all that it has to wrap.
-- Rules: Recovery 4 to 7
use Rattle.std.specs.Prelude.{◌≡◌, ℕ, ◌<◌, ◌≤◌, true, false, List, Some, slice_get}
use Rattle.std.specs.List.{AllByRecursion}
use Rattle.ring_base.specs.Processors.{at, elements}
use Rattle.ring_base.specs.declared.ring_id.RingId.{RingId}
use Rattle.ring_payload.specs.PayloadKinds.{is_user, is_end}
use Rattle.ring_wire.specs.declared.commit.CommitToken.{CommitToken}
use Rattle.ring_wire.specs.declared.entries.CommitEntry.{CommitEntry}
use Rattle.ring_wire.specs.declared.message.Message.{Message}
use Rattle.ring_core_spec.specs.Tokens.{TokenVisit, numbered}
use Rattle.ring_core_spec.specs.Commits.{Configuration}
use Rattle.ring_core_spec.specs.Recoveries.{plan_of, low, is_reported, is_wrap_of}
use Rattle.ring_core_spec.specs.State.{Core, Report}
use Rattle.ring_core_proof.specs.FactWords.{IsIn}

-- The messages that a core numbered in a visit.
abbrev pub sent_in : {A : Type 0} → Core A → TokenVisit A → List (Message A)
sent_in c v = numbered v.received.ring c.me v.received.seq v.fresh

-- The core numbered the message in one of its visits.
pub record IsSentBy {A : Type 0} (c : Core A) (x : Message A) : Type 0 where
  pub turn : TokenVisit A
  pub there : IsIn turn c.turns
  pub numbered_there : IsIn x (sent_in c turn)

-- After the core's own End in a ring come only user messages.
abbrev pub EndsLast : {A : Type 0} → Core A → Type 0
EndsLast {A} c =
    (x y : Message A) → IsSentBy c x → IsSentBy c y → x.ring ≡ y.ring → is_user x.payload ≡ false → is_end y.payload ≡ true → x.number ≤ y.number

-- The core holds an End of processor i of the ring, up to number n.
pub record HoldsEndUpTo {A : Type 0} (c : Core A) (ring : RingId) (i n : ℕ) : Type 0 where
  pub message : Message A
  pub held : IsIn message c.held
  pub ring_is : message.ring ≡ ring
  pub sender : message.sender ≡ i
  pub ended : is_end message.payload ≡ true
  pub within : message.number ≤ n

-- The core installed the ring, and holds each member's End, up to number n.
pub record IsBehindEnds {A : Type 0} (c : Core A) (ring : RingId) (n : ℕ) : Type 0 where
  pub configuration : Configuration
  pub there : IsIn configuration c.installs
  pub ring_is : configuration.ring ≡ ring
  pub ends : (i : ℕ) → IsIn i (elements configuration.members) → HoldsEndUpTo c ring i n

-- Each user message that the core sends in a visit comes after every member's End.
abbrev pub SendsBehindEnds : {A : Type 0} → Core A → TokenVisit A → Type 0
SendsBehindEnds {A} c v = (x : Message A) → IsIn x (sent_in c v) → is_user x.payload ≡ true → IsBehindEnds c v.received.ring x.number

-- Each front that the core reports of a ring, except of its opening ring, comes after every member's End.
abbrev pub ReportsBehindEnds : {A : Type 0} → Core A → Report → Type 0
ReportsBehindEnds c x = 0 < x.entry.old.seq → IsBehindEnds c x.entry.old x.entry.front

-- The core holds number u of the old ring; if it is a user message, one held of the newer ring below number n wraps it.
pub record IsHandedBefore {A : Type 0} (c : Core A) (old ring : RingId) (u n : ℕ) : Type 0 where
  pub message : Message A
  pub held : IsIn message c.held
  pub ring_is : message.ring ≡ old
  pub number_is : message.number ≡ u
  pub wrapped : is_user message.payload ≡ true → (y : Message A) × IsIn y c.held × (y.ring ≡ ring) × (y.number < n) × (is_wrap_of old u y.payload ≡ true)

-- A plan of the ring has the core's own entry, and the core wrapped all that the entry reports above the least front,
-- before number n.
pub record HasHandedOn {A : Type 0} (c : Core A) (ring : RingId) (n : ℕ) : Type 0 where
  pub commit : CommitToken
  pub there : IsIn commit c.plans
  pub ring_is : commit.ring ≡ ring
  pub place : ℕ
  pub own : CommitEntry
  pub here : slice_get commit.entries place ≡ Some own
  pub mine : at commit.members place ≡ c.me
  pub handed : (u : ℕ) → is_reported u own ≡ true → low (plan_of own.old commit.members commit.entries) < u → IsHandedBefore c own.old ring u n

-- Each End that the core sends in a visit comes after what it has to wrap.
abbrev pub EndsBehindWraps : {A : Type 0} → Core A → TokenVisit A → Type 0
EndsBehindWraps {A} c v = (x : Message A) → IsIn x (sent_in c v) → is_end x.payload ≡ true → HasHandedOn c v.received.ring x.number

-- The four facts together.
pub record KeepsOrder {A : Type 0} (c : Core A) : Type 0 where
  pub last : EndsLast c
  pub users : AllByRecursion (SendsBehindEnds c) c.turns
  pub reports : AllByRecursion (ReportsBehindEnds c) c.reports
  pub ends : AllByRecursion (EndsBehindWraps c) c.turns
