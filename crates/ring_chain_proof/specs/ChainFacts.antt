-- The facts of every run: who takes part in a ring, one chain of visits, one plan, safe marks, and the outputs.
-- Rules: Rings and states 2 and 14; Token and window 13; The commit token 10; Recovery 1; Outputs 3 to 5
use Rattle.std.specs.Prelude.{◌≡◌, ℕ, ◌+◌, ◌≤◌, true, ◌⊎◌, ◌==◌, if◌then◌else◌, List, [], ◌∷◌, filter_map, length, Option, Some, None}
use Rattle.std.specs.List.{AllByRecursion}
use Rattle.ring_base.specs.Processors.{IsProc, IsMember, at, size, position_of}
use Rattle.ring_base.specs.declared.ring_id.RingId.{RingId}
use Rattle.ring_payload.specs.PayloadKinds.{is_user}
use Rattle.ring_wire.specs.declared.commit.CommitToken.{CommitToken}
use Rattle.ring_wire.specs.declared.message.Message.{Message}
use Rattle.ring_core_spec.specs.Windows.{found}
use Rattle.ring_core_spec.specs.Tokens.{TokenVisit, visits_in_ring, VisitBy}
use Rattle.ring_core_spec.specs.Commits.{Configuration}
use Rattle.ring_core_spec.specs.declared.out.Out.{Out}
use Rattle.ring_core_spec.specs.declared.out.Out.TheVariants.{Send as SendOut, Agreed, Safe, Trans, Rest, Regular}
use Rattle.ring_core_spec.specs.State.{Core, Report, formed_ring_of}
use Rattle.ring_core_proof.specs.FactWords.{IsIn}
use Rattle.ring_core_spec.specs.Views.{front, mark}
use Rattle.ring_core_proof.specs.Worlds.{World}
use Rattle.ring_chain_proof.specs.ChainWords.{Chains, visits_taken_by, IsRingOf, IsRound, IsGenuine, WrapsGenuine, AreReports, IsSafe}

-- Rings

-- Processor q takes part in a ring as one of its members, and the representative is the smallest of them.
pub record TakesPart (q : ℕ) (p : Configuration) : Type 0 where
  pub member : IsMember p.members q
  pub first : at p.members 0 ≡ p.ring.rep

-- Each processor is a member of each ring that it took part in, and the representative is the smallest member.
abbrev pub AllTakePart : {A : Type 0} → (ℕ → Core A) → Type 0
AllTakePart cores = (q : ℕ) → IsProc q → AllByRecursion (TakesPart q) (cores q).rings

-- All processors that take part in a ring name the same members.
abbrev pub NameSameMembers : {A : Type 0} → (ℕ → Core A) → Type 0
NameSameMembers cores =
    (p q : ℕ) (ring : RingId) (a b : ℕ) → IsIn (record { ring = ring; members = a }) (cores p).rings →
    IsIn (record { ring = ring; members = b }) (cores q).rings → a ≡ b

-- Visits

-- The visits of each ring are one list, and each core's visits are those of the list that it took.
pub record AreChains {A : Type 0} (visits : Chains A) (cores : ℕ → Core A) : Type 0 where
  -- A ring has no visits, or its visits follow each other round its members.
  pub rounds : (r : RingId) → (visits r ≡ []) ⊎ IsRound cores r (visits r)
  pub turns : (q : ℕ) (r : RingId) → visits_in_ring r (cores q).turns ≡ visits_taken_by q (visits r)

-- There are lists of visits that the cores' visits are taken from.
abbrev pub HasChains : {A : Type 0} → (ℕ → Core A) → Type 0
HasChains {A} cores = (visits : Chains A) × AreChains visits cores

-- Each message held anywhere was numbered by its sender in one of these visits, and so was each message that a visit's
-- new payloads wrap.
pub record AreNumbered {A : Type 0} (visits : Chains A) (cores : ℕ → Core A) : Type 0 where
  pub held : (q : ℕ) → AllByRecursion (IsGenuine visits) (cores q).held
  pub wraps : (r : RingId) → AllByRecursion (λ (v : VisitBy A). AllByRecursion (WrapsGenuine visits) v.turn.fresh) (visits r)

-- Such lists exist, with all that is held and all that is wrapped numbered in them.
abbrev pub HasNumbered : {A : Type 0} → (ℕ → Core A) → Type 0
HasNumbered {A} cores = (visits : Chains A) × AreChains visits cores × AreNumbered visits cores

-- The number of the token that a member visits next: m above that of its newest visit in a ring of m members, and
-- `first` if it has none.
abbrev pub due_number : {A : Type 0} → ℕ → ℕ → List (TokenVisit A) → ℕ
due_number m first [] = first
due_number m first (v ∷ older) = v.received.number + m

-- Each of a member's visits, newest first, has the number that was due.
abbrev pub AreSpaced : {A : Type 0} → ℕ → ℕ → List (TokenVisit A) → Type 0
AreSpaced m first [] = Unit {0}
AreSpaced m first (v ∷ older) = (v.received.number ≡ due_number m first older) × AreSpaced m first older

-- Each member of each ring visits its token in turn, first the token of the number that is its position.
abbrev pub VisitInTurn : {A : Type 0} → (ℕ → Core A) → Type 0
VisitInTurn cores =
    (q : ℕ) (ring : RingId) (members : ℕ) → IsProc q → IsMember members q → IsRingOf cores ring members →
    AreSpaced (size members) (position_of members q) (visits_in_ring ring (cores q).turns)

-- Safety

-- Each safe mark of each core is safe.
abbrev pub MarksAreSafe : {A : Type 0} → (ℕ → Core A) → Type 0
MarksAreSafe cores = (q : ℕ) (ring : RingId) → IsSafe cores ring (mark (cores q) ring)

-- Each safe mark that a core reported of its last installed ring is safe.
abbrev pub ReportsAreSafe : {A : Type 0} → (ℕ → Core A) → Type 0
ReportsAreSafe cores = (q : ℕ) → AllByRecursion (λ (x : Report). IsSafe cores x.entry.old x.entry.mark) (cores q).reports

-- Plans

-- A commit token has the reports of all members of its ring.
pub record IsPlan {A : Type 0} (cores : ℕ → Core A) (k : CommitToken) : Type 0 where
  pub ring_of : IsRingOf cores k.ring k.members
  pub count : length k.entries ≡ size k.members
  pub reports : AreReports cores k

-- Each commit token with which a core ever entered Recovery has the reports of all members.
abbrev pub ArePlans : {A : Type 0} → (ℕ → Core A) → Type 0
ArePlans cores = (q : ℕ) → AllByRecursion (IsPlan cores) (cores q).plans

-- All processors that recover in a ring have one plan: the members and their reports.
abbrev pub HaveOnePlan : {A : Type 0} → (ℕ → Core A) → Type 0
HaveOnePlan cores =
    (p q : ℕ) (k l : CommitToken) → IsIn k (cores p).plans → IsIn l (cores q).plans → k.ring ≡ l.ring → (k.members ≡ l.members) × (k.entries ≡ l.entries)

-- Each member of its ring holds what an output reports as safe.
abbrev pub IsSafeOutput : {A : Type 0} → (ℕ → Core A) → Out A → Type 0
IsSafeOutput cores (Safe ring upto) = IsSafe cores ring upto
IsSafeOutput cores (SendOut to frame) = Unit {0}
IsSafeOutput cores (Agreed ring n x) = Unit {0}
IsSafeOutput cores (Trans old new set) = Unit {0}
IsSafeOutput cores (Rest ring n x) = Unit {0}
IsSafeOutput cores (Regular ring set) = Unit {0}

-- All outputs of all processors in a world meet this.
abbrev pub SafeOutputsAreSafe : {A : Type 0} → World A → Type 0
SafeOutputsAreSafe {A} w = AllByRecursion (λ (o : ℕ × Out A). IsSafeOutput w.cores o.1) w.outs

-- Agreed messages

-- The number of an `Agreed` output.
abbrev pub agreed_of : {A : Type 0} → Out A → Option ℕ
agreed_of (Agreed ring n x) = Some n
agreed_of (SendOut to frame) = None
agreed_of (Safe ring upto) = None
agreed_of (Trans old new set) = None
agreed_of (Rest ring n x) = None
agreed_of (Regular ring set) = None

-- The same, if this processor gave the output.
abbrev pub agreed_number : {A : Type 0} → ℕ → ℕ × Out A → Option ℕ
agreed_number i o = if o.0 == i then agreed_of o.1 else None

-- The numbers of a processor's `Agreed` outputs, in order.
abbrev pub agreed_numbers : {A : Type 0} → World A → ℕ → List ℕ
agreed_numbers w i = filter_map (agreed_number i) w.outs

-- The message is held under this number, and is a user message.
pub record IsHeldUser {A : Type 0} (held : List (Message A)) (ring : RingId) (n : ℕ) (x : Message A) : Type 0 where
  pub held_there : found held ring n ≡ Some x
  pub user : is_user x.payload ≡ true

-- The message of an `Agreed` or a `Rest` is the one that the core holds under its number.
abbrev pub IsOutputHeld : {A : Type 0} → Core A → Out A → Type 0
IsOutputHeld c (Agreed ring n x) = IsHeldUser c.held ring n x
IsOutputHeld c (Rest ring n x) = IsHeldUser c.held ring n x
IsOutputHeld c (SendOut to frame) = Unit {0}
IsOutputHeld c (Safe ring upto) = Unit {0}
IsOutputHeld c (Trans old new set) = Unit {0}
IsOutputHeld c (Regular ring set) = Unit {0}

-- Each message given in a world is the one that the core of its processor holds under its number.
abbrev pub OutputsAreHeld : {A : Type 0} → World A → Type 0
OutputsAreHeld {A} w = AllByRecursion (λ (o : ℕ × Out A). IsOutputHeld (w.cores o.0) o.1) w.outs

-- The formed ring of n processors, at most 16

-- Each of the processors 1 to n holds all of a ring up to s.
abbrev pub AllHold : {A : Type 0} → ℕ → (ℕ → Core A) → RingId → ℕ → Type 0
AllHold n cores ring s = (q : ℕ) → IsProc q → q ≤ n → s ≤ front (cores q) ring

-- All processors hold all numbers up to each safe mark of each core.
abbrev pub AllHoldMarks : {A : Type 0} → ℕ → (ℕ → Core A) → Type 0
AllHoldMarks n cores = (q : ℕ) (ring : RingId) → AllHold n cores ring (mark (cores q) ring)

-- The output is of the formed ring, and what it reports as safe all processors hold.
abbrev pub IsOfFormed : {A : Type 0} → ℕ → (ℕ → Core A) → Out A → Type 0
IsOfFormed n cores (Agreed ring k x) = ring ≡ (formed_ring_of n).ring
IsOfFormed n cores (Safe ring upto) = (ring ≡ (formed_ring_of n).ring) × AllHold n cores ring upto
IsOfFormed n cores (SendOut to frame) = Unit {0}
IsOfFormed n cores (Trans old new set) = ⊥
IsOfFormed n cores (Rest ring k x) = ⊥
IsOfFormed n cores (Regular ring set) = ⊥

-- All outputs of all processors in a world meet this.
abbrev pub AllIsOfFormed : {A : Type 0} → ℕ → World A → Type 0
AllIsOfFormed {A} n w = AllByRecursion (λ (o : ℕ × Out A). IsOfFormed n w.cores o.1) w.outs
