-- What a core's facts say of a ring: the front, the safe mark, which numbers are new, the entry that the core would
-- report, and its plan.
-- Rules: Token and window 1 to 4; The commit token 2 and 3
use Rattle.std.specs.Prelude.{ℕ, Bool, if◌then◌else◌, List, [], ◌∷◌}
use Rattle.ring_base.specs.Rings.{same_ring}
use Rattle.ring_base.specs.declared.ring_id.RingId.{RingId}
use Rattle.ring_token.specs.Frames.{CommitToken, CommitEntry}
use Rattle.ring_recover.specs.Windows.{front_of, is_new}
use Rattle.ring_recover.specs.Windows.{held_bits}
use Rattle.ring_token.specs.TokenVisits.{safe_mark}
use Rattle.ring_recover.specs.Plans.{Plan, plan_of}
use Rattle.ring_core_spec.specs.State.{Core}

-- The core's front in a ring.
abbrev pub front : {A : Type 0} → Core A → RingId → ℕ
front c ring = front_of c.held ring

-- The core's safe mark in a ring.
abbrev pub mark : {A : Type 0} → Core A → RingId → ℕ
mark c ring = safe_mark c.turns c.raises ring

-- Number n of the ring is new to the core.
abbrev pub takes_number : {A : Type 0} → Core A → RingId → ℕ → Bool
takes_number c ring n = is_new c.held (mark c ring) ring n

-- The core's own entry: what it would report of its last installed ring now.
abbrev pub own_entry : {A : Type 0} → Core A → CommitEntry
own_entry c =
    record {
      old = c.installed.ring;
      front = front c c.installed.ring;
      mark = mark c c.installed.ring;
      held = held_bits c.held c.installed.ring;
    }

-- The entries of the newest commit token of a ring.
abbrev pub entries_for : RingId → List CommitToken → List CommitEntry
entries_for ring [] = []
entries_for ring (k ∷ ks) = if same_ring k.ring ring then k.entries else entries_for ring ks

-- The plan for the running ring.
abbrev pub plan : {A : Type 0} → Core A → Plan
plan c = plan_of c.installed.ring c.running.members (entries_for c.running.ring c.plans)
