-- What the code of a ring core keeps, and how that represents the core with all its history. The lists of a core are
-- over all rings. For each ring in use the code keeps a window and the visits of the token, with only this ring's
-- items.
-- Rules: Rings and states 3 to 6
use Rattle.std.specs.Prelude.{◌≡◌, ℕ, suc, ◌+◌, ◌<◌, ◌≤◌, Bool, true, false, List, filter, Option, Some, None}
use Rattle.std.specs.List.{AllByRecursion}
use Rattle.ring_base.specs.Rings.{same_ring}
use Rattle.ring_base.specs.Processors.{IsMember}
use Rattle.ring_base.specs.declared.ring_id.RingId.{RingId}
use Rattle.ring_base.specs.declared.state.State.{State}
use Rattle.ring_base.specs.declared.state.State.TheVariants.{Gather, Commit, Recovery, Operational, Stopped}
use Rattle.ring_payload.specs.declared.content.Payload.{Payload}
use Rattle.ring_wire.specs.declared.message.Message.{Message}
use Rattle.ring_window.specs.Held.{of_ring, highest}
use Rattle.ring_window.specs.Windows.{WindowHistory}
use Rattle.ring_token.specs.TokenVisits.{TokenVisit, MarkRaise, visits_in_ring}
use Rattle.ring_token.specs.Histories.{TokenHistory, last_aru}
use Rattle.ring_recover.specs.Installing.{in_front}
use Rattle.ring_recover.specs.Plans.{safe}
use Rattle.ring_join.specs.Gatherers.{Gatherer}
use Rattle.ring_join.specs.Gathering.{Gathering}
use Rattle.ring_commit.specs.declared.configuration.Configuration.{Configuration}
use Rattle.ring_srp_state.specs.declared.recovery_state.RecoveryState.{RecoveryState}
use Rattle.ring_core_spec.specs.State.{Core, OutgoingFrame, floor, is_stopped}
use Rattle.ring_core_spec.specs.Views.{front, mark, plan}
use Rattle.ring_core_spec.specs.Giving.{user_messages_between}
use Rattle.ring_srp_state.specs.Histories.{History}
use Rattle.ring_base.specs.Numbers.{window_size}

-- The core that the code's fields and the history make up.
abbrev pub core_of : {A : Type 0} → ℕ → ℕ → State → Configuration → Configuration → Gathering → Option (OutgoingFrame A)
    → List (Payload A) → List (Message A) → History A → Core A
core_of me total state running installed gathering last_sent queue held h =
    record {
      me = me;
      total = total;
      state = state;
      running = running;
      installed = installed;
      gathering = gathering;
      last_sent = last_sent;
      queue = queue;
      rings = h.rings;
      installs = h.installs;
      held = held;
      turns = h.turns;
      raises = h.raises;
      reports = h.reports;
      plans = h.plans;
    }

-- The part of one ring

-- The marks to which plans raised the ring's safe mark.
abbrev pub raises_of : RingId → List MarkRaise → List MarkRaise
raises_of ring raises = filter (λ (x : MarkRaise). same_ring x.ring ring) raises

-- The window of a ring, from the core's lists.
abbrev pub window_of : {A : Type 0} → Core A → RingId → WindowHistory A
window_of c ring = record { ring = ring; mark = mark c ring; held = of_ring ring c.held }

-- The visits of a ring's token and the raises of its safe mark, from the core's lists.
abbrev pub visits_of : {A : Type 0} → Core A → RingId → TokenHistory A
visits_of c ring = record { me = c.me; ring = ring; turns = visits_in_ring ring c.turns; raises = raises_of ring c.raises }

-- The window and the visits are this ring's; the mark is at most the front, nothing held lies above the window, and the
-- `aru` forwarded last is at most the front.
pub record IsPart {A : Type 0} (c : Core A) (ring : RingId) (window : WindowHistory A) (visit : TokenHistory A) : Type 0 where
  pub window_is : window ≡ window_of c ring
  pub visit_is : visit ≡ visits_of c ring
  pub reached : mark c ring ≤ front c ring
  pub near : highest c.held ring ≤ mark c ring + window_size
  pub led : last_aru (visits_in_ring ring c.turns) ≤ front c ring

-- Facts about ring numbers

-- Nothing was held, visited or raised in a ring of this number or above.
pub record IsBelow {A : Type 0} (c : Core A) (number : ℕ) : Type 0 where
  pub held : AllByRecursion (λ (x : Message A). x.ring.seq < number) c.held
  pub turns : AllByRecursion (λ (v : TokenVisit A). v.received.ring.seq < number) c.turns
  pub raises : AllByRecursion (λ (x : MarkRaise). x.ring.seq < number) c.raises

-- In a state and with a floor, the number below which all held rings lie: in Commit the ring last taken part in hasn't
-- run yet.
abbrev pub held_ring_bound : State → ℕ → ℕ
held_ring_bound Gather number = suc number
held_ring_bound Commit number = number
held_ring_bound Recovery number = suc number
held_ring_bound Operational number = suc number
held_ring_bound Stopped number = suc number

-- The core takes part in a ring that isn't its installed one.
abbrev pub is_forming : State → Bool
is_forming Gather = false
is_forming Commit = true
is_forming Recovery = true
is_forming Operational = false
is_forming Stopped = false

-- A ring runs.
abbrev pub is_running : State → Bool
is_running Recovery = true
is_running Operational = true
is_running Gather = false
is_running Commit = false
is_running Stopped = false

-- The ring whose messages are taken, if any are.
abbrev pub ring_in_use : {A : Type 0} → State → Core A → RingId
ring_in_use Recovery c = c.running.ring
ring_in_use Gather c = c.installed.ring
ring_in_use Commit c = c.installed.ring
ring_in_use Operational c = c.installed.ring
ring_in_use Stopped c = c.installed.ring

-- In Recovery the code keeps, beside the part of the installed ring, that of the running ring, with the plan and the
-- counted Ends. The running ring's user messages up to `most`, which the window may drop, are deferred.
pub record Recovers {A : Type 0} (c : Core A) (r : RecoveryState A) : Type 0 where
  pub part : IsPart c c.running.ring r.part.window r.part.visit
  pub plan_is : r.plan ≡ record { me = c.me; plan = plan c; seen = of_ring c.running.ring c.held }
  pub ends_is : r.ends ≡ in_front c.held c.running.ring
  pub deferred_is : r.deferred.items ≡ user_messages_between c c.running.ring 0 r.most
  pub deferred_in_front : r.most ≤ front c c.running.ring
  pub deferred_covers_mark : mark c c.running.ring ≤ r.most
  pub deferred_covers_aru : last_aru (visits_in_ring c.running.ring c.turns) ≤ r.most
  -- The old ring's safe mark is at most the plan's.
  pub old_safe : mark c c.installed.ring ≤ safe (plan c)

-- The code keeps a state of Recovery, and it is the core's.
abbrev pub IsRecovering : {A : Type 0} → Core A → Option (RecoveryState A) → Type 0
IsRecovering c None = ⊥
IsRecovering c (Some r) = Recovers c r

-- Every state

-- The code's fields are those of this core, which hasn't stopped.
pub record IsRunningCore {A : Type 0} (c : Core A) (gather : Gatherer) (window : WindowHistory A) (visit : TokenHistory A)
    (recovery : Option (RecoveryState A)) : Type 0 where
  pub runs : is_stopped c.state ≡ false
  pub gather_me : gather.me ≡ c.me
  pub gather_floor : c.state ≡ Gather → gather.floor ≡ floor c
  pub member : IsMember c.running.members c.me
  -- The part of the installed ring.
  pub kept : IsPart c c.installed.ring window visit
  pub below : IsBelow c (held_ring_bound c.state (floor c))
  pub older : c.installed.ring.seq ≤ floor c
  pub apart : is_forming c.state ≡ true → c.installed.ring.seq < floor c
  pub same : c.state ≡ Operational → c.installed ≡ c.running
  -- In Recovery there is a state of Recovery, in every other state none.
  pub recovery_state : c.state ≡ Recovery → IsRecovering c recovery
  pub over : (c.state ≡ Recovery → ⊥) → recovery ≡ None
