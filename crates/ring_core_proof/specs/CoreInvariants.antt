-- The facts that every core knows of itself after any inputs, forged frames included: its rings fit its state, each
-- fact is of a ring that it takes part in, a number of a ring is held with one message, the tokens of a ring are
-- visited in the order of their numbers, and reports say what is held.
-- Rules: Rings and states 2 to 7; Token and window 1, 4 and 6; The commit token 2 and 3
use Rattle.std.specs.Prelude.{◌≡◌, ℕ, ◌<◌, ◌≤◌, ◌⊎◌, true, List, [], ◌∷◌}
use Rattle.std.specs.List.{AllByRecursion}
use Rattle.ring_base.specs.Processors.{IsProc, IsMember}
use Rattle.ring_base.specs.declared.ring_id.RingId.{RingId}
use Rattle.ring_base.specs.declared.state.State.TheVariants.{Commit, Recovery, Operational}
use Rattle.ring_wire.specs.declared.commit.CommitToken.{CommitToken}
use Rattle.ring_wire.specs.declared.entries.CommitEntry.{CommitEntry}
use Rattle.ring_wire.specs.declared.message.Message.{Message}
use Rattle.ring_core_spec.specs.Windows.{holds}
use Rattle.ring_core_spec.specs.Tokens.{TokenVisit, MarkRaise, is_newer, numbered}
use Rattle.ring_core_spec.specs.Commits.{Configuration}
use Rattle.ring_core_spec.specs.Recoveries.{is_reported}
use Rattle.ring_core_spec.specs.State.{Core, Report, floor}
use Rattle.ring_core_spec.specs.Views.{front, mark, own_entry}
use Rattle.ring_core_proof.specs.FactWords.{IsIn}
use Rattle.ring_core_proof.specs.LawConditions.{IsFalling}

-- Rings

-- x is the newest item of the list.
abbrev pub IsNewest : {X : Type 0} → X → List X → Type 0
IsNewest {X} x xs = (older : List X) × (xs ≡ x ∷ older)

-- The rings taken part in and the rings installed, newest first, fit the state.
pub record RingsFit {A : Type 0} (c : Core A) : Type 0 where
  pub runs : IsNewest c.running c.rings
  pub rise : IsFalling c.rings
  pub last : IsNewest c.installed c.installs
  pub installs_rise : IsFalling c.installs
  -- Each installed ring was taken part in.
  pub taken_part : AllByRecursion (λ p. IsIn p c.rings) c.installs
  pub member : IsProc c.me → AllByRecursion (λ (p : Configuration). IsMember p.members c.me) c.rings
  -- The installed ring is the running one, or older; in Operational it is the running one, while a ring is formed it is
  -- older.
  pub in_order : (c.running ≡ c.installed) ⊎ (c.installed.ring.seq < floor c)
  pub operating : c.state ≡ Operational → c.running ≡ c.installed
  pub changing : (c.state ≡ Commit) ⊎ (c.state ≡ Recovery) → c.installed.ring.seq < floor c

-- Facts

-- The ring is one of these configurations.
abbrev pub IsRingAmong : List Configuration → RingId → Type 0
IsRingAmong rings ring = (members : ℕ) × IsIn (record { ring = ring; members = members }) rings

-- A report is of an installed ring, on the way into a newer one.
pub record IsOnTheWay (rings installs : List Configuration) (x : Report) : Type 0 where
  pub into : IsRingAmong rings x.ring
  pub from : IsRingAmong installs x.entry.old
  pub newer : x.entry.old.seq < x.ring.seq

-- Each fact is of a ring below this number.
pub record IsKnownBelow {A : Type 0} (c : Core A) (number : ℕ) : Type 0 where
  pub held : AllByRecursion (λ (x : Message A). x.ring.seq < number) c.held
  pub turns : AllByRecursion (λ (v : TokenVisit A). v.received.ring.seq < number) c.turns
  pub raises : AllByRecursion (λ (x : MarkRaise). x.ring.seq < number) c.raises
  pub plans : AllByRecursion (λ (k : CommitToken). k.ring.seq < number) c.plans

-- Each fact is of a ring that the core takes part in; raises and reports are of rings that it installed.
pub record FactsFit {A : Type 0} (c : Core A) : Type 0 where
  pub held : AllByRecursion (λ (x : Message A). IsRingAmong c.rings x.ring) c.held
  pub turns : AllByRecursion (λ (v : TokenVisit A). IsRingAmong c.rings v.received.ring) c.turns
  pub raises : AllByRecursion (λ (x : MarkRaise). IsRingAmong c.installs x.ring) c.raises
  pub plans : AllByRecursion (λ (k : CommitToken). IsRingAmong c.rings k.ring) c.plans
  pub reports : AllByRecursion (IsOnTheWay c.rings c.installs) c.reports
  -- A ring has one report and one plan.
  pub one_report : (x y : Report) → IsIn x c.reports → IsIn y c.reports → x.ring ≡ y.ring → x ≡ y
  pub one_plan : (k l : CommitToken) → IsIn k c.plans → IsIn l c.plans → k.ring ≡ l.ring → k ≡ l
  -- In Commit no fact is of the ring taken part in.
  pub unknown : c.state ≡ Commit → IsKnownBelow c (floor c)

-- Messages and visits

-- Message numbers begin at 1, a number of a ring is held with one message, and the core holds what it numbered in its
-- visits.
pub record MessagesFit {A : Type 0} (c : Core A) : Type 0 where
  pub from_one : AllByRecursion (λ (x : Message A). 1 ≤ x.number) c.held
  pub one : (x y : Message A) → IsIn x c.held → IsIn y c.held → x.ring ≡ y.ring → x.number ≡ y.number → x ≡ y
  pub own : AllByRecursion (λ (v : TokenVisit A). AllByRecursion (λ (x : Message A). IsIn x c.held) (numbered v.received.ring c.me v.received.seq v.fresh)) c.turns

-- Each visit is of a token with a greater number than the visits before it in its ring.
abbrev pub VisitsRise : {A : Type 0} → List (TokenVisit A) → Type 0
VisitsRise [] = Unit {0}
VisitsRise (v ∷ older) = (is_newer older v.received ≡ true) × VisitsRise older

-- Reports

-- The entry reports exactly the numbers held of its ring.
abbrev pub IsExactEntry : {A : Type 0} → List (Message A) → CommitEntry → Type 0
IsExactEntry held e = (n : ℕ) → is_reported n e ≡ holds held e.old n

-- What an entry reports is held, and stays so when more is held.
pub record IsTrueEntry {A : Type 0} (c : Core A) (e : CommitEntry) : Type 0 where
  pub below : e.mark ≤ e.front
  pub front_is : e.front ≤ front c e.old
  pub mark_is : e.mark ≤ mark c e.old
  pub held : (n : ℕ) → is_reported n e ≡ true → holds c.held e.old n ≡ true

-- The entry that the core would report now is exact, in Commit it is the one that it reported, and all its reports are
-- true.
pub record ReportsFit {A : Type 0} (c : Core A) : Type 0 where
  pub exact : IsExactEntry c.held (own_entry c)
  pub newest : c.state ≡ Commit → IsNewest (record { ring = c.running.ring; entry = own_entry c }) c.reports
  pub all_true : AllByRecursion (λ (x : Report). IsTrueEntry c x.entry) c.reports

-- All facts together

-- The facts that every core knows of itself: rings, facts, messages, visits and reports.
pub record LocalFacts {A : Type 0} (c : Core A) : Type 0 where
  pub rings : RingsFit c
  pub facts : FactsFit c
  pub messages : MessagesFit c
  pub visits : VisitsRise c.turns
  pub reports : ReportsFit c
