-- The facts that a core has of one ring, the rings that it has left, and when it is between two rings.
-- Rules: Rings and states 3 and 7; The commit token 5 and 6
use Rattle.std.specs.Prelude.{◌≡◌, ◌<◌, ◌≤◌, ◌⊎◌, List, filter}
use Rattle.ring_base.specs.Rings.{same_ring}
use Rattle.ring_base.specs.declared.ring_id.RingId.{RingId}
use Rattle.ring_base.specs.declared.state.State.TheVariants.{Gather, Commit, Stopped}
use Rattle.ring_wire.specs.declared.commit.CommitToken.{CommitToken}
use Rattle.ring_wire.specs.declared.message.Message.{Message}
use Rattle.ring_core_spec.specs.Windows.{of_ring}
use Rattle.ring_core_spec.specs.Tokens.{TokenVisit, MarkRaise, visits_in_ring}
use Rattle.ring_core_spec.specs.State.{Core, Report, floor}
use Rattle.ring_core_spec.specs.Views.{front, mark, own_entry}

-- All facts of one ring: the messages held, the visits of its token, the raises of its mark, and the report and the
-- plan on the way into it.
pub record RingKnowledge (A : Type 0) : Type 0 where
  pub held : List (Message A)
  pub turns : List (TokenVisit A)
  pub raises : List MarkRaise
  pub reports : List Report
  pub plans : List CommitToken

-- All facts that a core has of a ring.
abbrev pub knowledge_of : {A : Type 0} → RingId → Core A → RingKnowledge A
knowledge_of ring c =
    record {
      held = of_ring ring c.held;
      turns = visits_in_ring ring c.turns;
      raises = filter (λ (x : MarkRaise). same_ring x.ring ring) c.raises;
      reports = filter (λ (x : Report). same_ring x.ring ring) c.reports;
      plans = filter (λ (k : CommitToken). same_ring k.ring ring) c.plans;
    }

-- The ring neither runs nor is installed, and its number is at most the floor: the core left it, or never takes part in
-- it.
pub record HasLeft {A : Type 0} (c : Core A) (ring : RingId) : Type 0 where
  pub below : ring.seq ≤ floor c
  pub running : ring ≡ c.running.ring → ⊥
  pub installed : ring ≡ c.installed.ring → ⊥

-- The core has taken part in a ring newer than the installed one, and that ring doesn't run yet, or no longer runs.
pub record IsBetweenRings {A : Type 0} (c : Core A) : Type 0 where
  pub state : (c.state ≡ Gather) ⊎ ((c.state ≡ Commit) ⊎ (c.state ≡ Stopped))
  pub newer : c.installed.ring.seq < floor c

-- A later core has the same facts of this ring, and the same front and safe mark.
pub record KeepsKnowledge {A : Type 0} (ring : RingId) (before later : Core A) : Type 0 where
  pub known : knowledge_of ring later ≡ knowledge_of ring before
  pub front_is : front later ring ≡ front before ring
  pub mark_is : mark later ring ≡ mark before ring

-- A later core, until a plan is made, has the same installed ring and the same facts of it, and would report the same
-- entry.
pub record KeepsReport {A : Type 0} (before later : Core A) : Type 0 where
  pub installed : later.plans ≡ before.plans → later.installed ≡ before.installed
  pub known : later.plans ≡ before.plans → knowledge_of before.installed.ring later ≡ knowledge_of before.installed.ring before
  pub entry : later.plans ≡ before.plans → own_entry later ≡ own_entry before
