-- A core in Gather, and the joins that make it enter Gather from another state.
-- Rules: Gather 1, 7, 10 and 12; Timeouts 4
use Rattle.std.specs.Prelude.{ℕ, Bool, true, false, ◌==◌, nat_le, if◌then◌else◌, [], None}
use Rattle.ring_base.specs.Processors.{nobody, only, everybody, has, less}
use Rattle.ring_token.specs.FrameVariants.{Join as JoinFrame}
use Rattle.ring_token.specs.Frames.{Join}
use Rattle.ring_join.specs.Gathering.{Gathering, gathering_opening, own_join, join_effect, may_propose}
use Rattle.ring_join.specs.declared.join_effect.JoinEffect.{JoinEffect}
use Rattle.ring_base.specs.declared.state.State.{State}
use Rattle.ring_base.specs.declared.state.State.TheVariants.{Gather, Commit, Recovery, Operational, Stopped}
use Rattle.ring_core_spec.specs.State.{Core, OutgoingFrame, floor}

-- The `proc_set` with which Gather begins: the members of the last installed ring, or all processors if none was
-- installed.
abbrev pub first_procs : {A : Type 0} → Core A → ℕ
first_procs c = if c.installed.ring.seq == 0 then everybody c.total else c.installed.members

-- The core after it enters Gather: sets, agreement, queue and kept token start again.
abbrev pub gather_entered : {A : Type 0} → Core A → Core A
gather_entered c = record c { state = Gather; gathering = gathering_opening (first_procs c); last_sent = None; queue = [] }

-- The core with another gather.
abbrev pub with_gathering : {A : Type 0} → Core A → Gathering → Core A
with_gathering c g = record c { gathering = g }

-- The node's own join, sent to all other processors.
abbrev pub join_announcement : {A : Type 0} → Core A → OutgoingFrame A
join_announcement c = record { to = less (everybody c.total) (only c.me); frame = JoinFrame (own_join c.me (floor c) c.gathering) }

-- The join that an Operational node sends to the processors outside its ring.
abbrev pub join_invitation : {A : Type 0} → Core A → OutgoingFrame A
join_invitation c =
    record {
      to = less (everybody c.total) c.running.members;
      frame = JoinFrame (record { sender = c.me; number = floor c; proc_set = c.running.members; fail_set = nobody });
    }

-- The effect of a join in Gather.
abbrev pub join_effect_at : {A : Type 0} → Core A → Join → JoinEffect
join_effect_at c j = join_effect c.me c.gathering j

-- The state is Operational.
abbrev pub is_operational : State → Bool
is_operational Operational = true
is_operational Gather = false
is_operational Commit = false
is_operational Recovery = false
is_operational Stopped = false

-- A join in another state makes the node enter Gather: its sender is a member and its number is at least the ring's, or
-- its sender is no member and the state is Operational.
abbrev pub is_gather_trigger : {A : Type 0} → Core A → Join → Bool
is_gather_trigger c j = if has c.running.members j.sender then nat_le c.running.ring.seq j.number else is_operational c.state

-- A core in this state may propose: only in Gather, with consensus, as the smallest candidate.
abbrev pub proposes_in : {A : Type 0} → State → Core A → Bool
proposes_in Gather c = may_propose c.me (floor c) c.gathering
proposes_in Commit c = false
proposes_in Recovery c = false
proposes_in Operational c = false
proposes_in Stopped c = false

-- The core may propose a ring.
abbrev pub proposes : {A : Type 0} → Core A → Bool
proposes c = proposes_in c.state c
