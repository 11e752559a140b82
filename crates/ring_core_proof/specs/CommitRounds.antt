-- The two rounds of the commit tokens of a run: who sent each hop, what it says, who took it, and that none is taken
-- twice. Every definition is a test, so that it can be computed for a worked run.
-- Rules: The commit token 1 and 10
use Rattle.std.specs.Prelude.{◌≡◌, ℕ, ◌-◌, ◌*◌, ◌%◌, min, Bool, true, false, not, ◌&&◌, ◌||◌, ◌==◌, nat_lt, nat_le}
use Rattle.std.specs.Prelude.{if◌then◌else◌, List, [], ◌∷◌, ◌++◌, filter_map, length, Option, Some, None, slice_get}
use Rattle.std.specs.List.{list_all}
use Rattle.ring_base.specs.Numbers.{numbers_from}
use Rattle.ring_base.specs.Rings.{same_ring}
use Rattle.ring_base.specs.Processors.{only, has, at, size, elements}
use Rattle.ring_base.specs.declared.ring_id.RingId.{RingId}
use Rattle.ring_wire.specs.declared.commit.CommitToken.{CommitToken}
use Rattle.ring_wire.specs.declared.entries.CommitEntry.{CommitEntry}
use Rattle.ring_wire.specs.declared.frame.Frame.{Frame}
use Rattle.ring_wire.specs.declared.frame.Frame.TheVariants.{Message as MessageFrame, Token as TokenFrame, Join as JoinFrame, Commit as CommitFrame}
use Rattle.ring_core_spec.specs.Commits.{Configuration, position_of_hop, receiver, is_own}
use Rattle.ring_core_spec.specs.declared.input.Input.TheVariants.{Frame as FrameInput}
use Rattle.ring_core_spec.specs.State.{Core, Report, frame_at}
use Rattle.ring_core_spec.specs.Views.{own_entry}
use Rattle.ring_core_spec.specs.Deciding.{Transition, Ignore, decide}
use Rattle.ring_core_proof.specs.declared.event.RingEvent.{RingEvent}
use Rattle.ring_core_proof.specs.declared.event.RingEvent.TheVariants.{Send, Deliver, Timeout, Stop}
use Rattle.ring_core_proof.specs.Worlds.{Transmission, World, is_node, world_after_event, run}

-- The test holds for any two items of the list, in their order.
abbrev pub all_pairs : {T : Type 0} → (T → T → Bool) → List T → Bool
all_pairs test [] = true
all_pairs test (x ∷ xs) = list_all (test x) xs && all_pairs test xs

-- Rings

-- The ring's number is greater than the other's.
abbrev pub is_above : Configuration → Configuration → Bool
is_above a b = nat_lt b.ring.seq a.ring.seq

-- The numbers of the rings that a core takes part in rise; the list is newest first.
abbrev pub has_rising_rings : {A : Type 0} → Core A → Bool
has_rising_rings c = all_pairs is_above c.rings

-- Hops as they are sent

-- The report that a core wrote when it took part in a ring.
abbrev pub report_for : RingId → List Report → Option CommitEntry
report_for ring [] = None
report_for ring (r ∷ rs) = if same_ring r.ring ring then Some r.entry else report_for ring rs

-- The entries are those that these processors, in order, reported when they took part in the ring.
abbrev pub are_reports_of_members : {A : Type 0} → (ℕ → Core A) → RingId → List ℕ → List CommitEntry → Bool
are_reports_of_members cores ring is [] = true
are_reports_of_members cores ring [] (e ∷ es) = false
are_reports_of_members cores ring (i ∷ is) (e ∷ es) = is_own e (report_for ring (cores i).reports) && are_reports_of_members cores ring is es

-- The commit token was sent by the member before it, only to the member at its position.
abbrev pub is_handed_on : {A : Type 0} → Transmission A → CommitToken → Bool
is_handed_on f k = (f.from == at k.members ((k.hop - 1) % size k.members)) && (f.to == only (receiver k))

-- The hop is 1 to 2m, and the entries are the reports of its first members.
abbrev pub is_hop : {A : Type 0} → (ℕ → Core A) → CommitToken → Bool
is_hop cores k =
    nat_le 1 k.hop && nat_le k.hop (2 * size k.members) && (length k.entries == min k.hop (size k.members))
    && are_reports_of_members cores k.ring (elements k.members) k.entries

-- A frame is no commit token, or a hop that the member before it sent, with the reports of its first members.
abbrev pub is_hop_if_commit : {A : Type 0} → (ℕ → Core A) → Transmission A → Frame A → Bool
is_hop_if_commit cores f (CommitFrame k) = is_handed_on f k && is_hop cores k
is_hop_if_commit cores f (MessageFrame x) = true
is_hop_if_commit cores f (TokenFrame t) = true
is_hop_if_commit cores f (JoinFrame j) = true

-- Every commit token ever sent in a world is such a hop.
abbrev pub are_hops : {A : Type 0} → World A → Bool
are_hops w = list_all (λ (f : Transmission _). is_hop_if_commit w.cores f f.frame) w.frames

-- The commit token of a frame, if it is one.
abbrev pub commit_in : {A : Type 0} → Frame A → Option CommitToken
commit_in (CommitFrame k) = Some k
commit_in (MessageFrame x) = None
commit_in (TokenFrame t) = None
commit_in (JoinFrame j) = None

-- All commit tokens ever sent, in order, each as often as it was sent.
abbrev pub commits_of : {A : Type 0} → World A → List CommitToken
commits_of w = filter_map (λ (f : Transmission _). commit_in f.frame) w.frames

-- Two commit tokens of one ring name the same members.
abbrev pub agree_on_members : CommitToken → CommitToken → Bool
agree_on_members k l = not (same_ring k.ring l.ring) || (k.members == l.members)

-- Hops as they are taken

-- A commit token that isn't ignored: the processor that took it, and what it would have reported at that moment.
pub record Taking : Type 0 where
  pub who : ℕ
  pub commit : CommitToken
  pub report : CommitEntry

-- The transition ignores the input.
abbrev pub is_ignored : {A : Type 0} → Transition A → Bool
is_ignored Ignore = true
is_ignored _ = false

-- The commit token that a core takes, unless it ignores it.
abbrev pub taken_unless : {A : Type 0} → Bool → Core A → CommitToken → List Taking
taken_unless true c k = []
taken_unless false c k = record { who = c.me; commit = k; report = own_entry c } ∷ []

-- The commit token that a core takes from a frame that arrives, if any.
abbrev pub taken_at : {A : Type 0} → Core A → Frame A → List Taking
taken_at c (CommitFrame k) = taken_unless (is_ignored (decide c (FrameInput (CommitFrame k)))) c k
taken_at c (MessageFrame x) = []
taken_at c (TokenFrame t) = []
taken_at c (JoinFrame j) = []

-- The same, if the frame arrives at the core at all.
abbrev pub taken_if : {A : Type 0} → Bool → Core A → Frame A → List Taking
taken_if false c frame = []
taken_if true c frame = taken_at c frame

-- The commit token that a processor takes from a frame delivered to it: none if the frame wasn't sent, or not to it, or
-- the processor doesn't exist.
abbrev pub taken_of : {A : Type 0} → World A → ℕ → Option (Transmission A) → List Taking
taken_of w i None = []
taken_of w i (Some f) = taken_if (has f.to i && is_node w i) (w.cores i) f.frame

-- The commit token taken in an event.
abbrev pub taken_in : {A : Type 0} → World A → RingEvent A → List Taking
taken_in w (Deliver i k) = taken_of w i (frame_at w.frames k)
taken_in w (Send i payload) = []
taken_in w (Timeout i kind) = []
taken_in w (Stop i) = []

-- The commit tokens taken in a list of events, in order.
abbrev pub takings : {A : Type 0} → World A → List (RingEvent A) → List Taking
takings w [] = []
takings w (e ∷ es) = taken_in w e ++ takings (world_after_event w e) es

-- The two are of different rings or of different hops.
abbrev pub are_other_hops : Taking → Taking → Bool
are_other_hops t u = not (same_ring t.commit.ring u.commit.ring && (t.commit.hop == u.commit.hop))

-- The hop is one of the second round: m to 2m - 1.
abbrev pub is_second : CommitToken → Bool
is_second k = nat_le (size k.members) k.hop && nat_lt k.hop (2 * size k.members)

-- The token's entry of the processor that took it is what that processor would report.
abbrev pub still_reports : Taking → Bool
still_reports t = is_own t.report (slice_get t.commit.entries (position_of_hop t.commit))

-- The member at the position of the hop took it, in the second round with a report that it would write again.
abbrev pub is_taken : Taking → Bool
is_taken t = (receiver t.commit == t.who) && (not (is_second t.commit) || still_reports t)

-- The facts of a run

-- The rounds of all commit tokens of a run: the five facts of The commit token, rule 10.
pub record CommitRounds {A : Type 0} (w : World A) (events : List (RingEvent A)) : Type 0 where
  -- Each processor takes part in rings of rising numbers.
  pub rings : list_all (λ i. has_rising_rings ((run w events).cores i)) (numbers_from 1 w.total) ≡ true
  -- Each commit token ever sent is a hop, sent by the member before it.
  pub hops : are_hops (run w events) ≡ true
  pub members : all_pairs agree_on_members (commits_of (run w events)) ≡ true
  -- Each taken commit token is taken by the member at its position.
  pub taken : list_all is_taken (takings w events) ≡ true
  -- Each hop of a ring is taken at most once.
  pub once : all_pairs are_other_hops (takings w events) ≡ true
