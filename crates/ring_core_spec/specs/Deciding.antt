-- The transition that each input takes, by the core's state. All conditions are tested here; `Transitions` applies
-- the transition chosen and tests nothing.
-- Rules: Rings and states 8 and 9; Timeouts 2; Token and window 11
use Rattle.std.specs.Prelude.{ℕ, Bool, true, false, ◌&&◌, ◌==◌, if◌then◌else◌}
use Rattle.ring_base.specs.Rings.{same_ring}
use Rattle.ring_base.specs.Processors.{has}
use Rattle.ring_base.specs.declared.ring_id.RingId.{RingId}
use Rattle.ring_token.specs.Payloads.{Payload, is_queued}
use Rattle.ring_token.specs.Frames.{CommitToken, Frame, Join, Message, Token}
use Rattle.ring_token.specs.FrameVariants.{Message as MessageFrame, Token as TokenFrame, Join as JoinFrame, Commit as CommitFrame}
use Rattle.ring_token.specs.TokenVisits.{first_token}
use Rattle.ring_join.specs.declared.join_effect.JoinEffect.{JoinEffect}
use Rattle.ring_join.specs.declared.join_effect.JoinEffect.TheVariants.{Ignored, Agrees, Merges}
use Rattle.ring_recover.specs.Commits.{is_at}
use Rattle.ring_core_spec.specs.declared.input.Input.{Input}
use Rattle.ring_core_spec.specs.declared.input.Input.TheVariants.{Frame as FrameInput, Timeout, Send}
use Rattle.ring_base.specs.declared.timeout_kind.Kind.{Kind}
use Rattle.ring_base.specs.declared.timeout_kind.Kind.TheVariants.{Retransmit, Join as JoinTime, Consensus, Loss}
use Rattle.ring_base.specs.declared.state.State.{State}
use Rattle.ring_base.specs.declared.state.State.TheVariants.{Gather, Commit, Recovery, Operational, Stopped}
use Rattle.ring_core_spec.specs.State.{Core, floor}
use Rattle.ring_core_spec.specs.Naming.{is_named}
use Rattle.ring_core_spec.specs.Views.{takes_number}
use Rattle.ring_core_spec.specs.Visiting.{accepts}
use Rattle.ring_core_spec.specs.Joining.{gather_entered, join_effect_at, is_gather_trigger}
use Rattle.ring_core_spec.specs.CommitSteps.{takes_first_round, takes_second_round, takes_start}

-- A transition: what the core does with an input.
pub data Transition (A : Type 0) : Type 0 where
  -- Nothing changes.
  Ignore : Transition A
  Enqueue : (payload : Payload A) → Transition A
  -- The last token or commit token is sent again.
  Repeat : Transition A
  -- The node's own join is sent.
  Announce : Transition A
  -- A join is sent to the processors outside the ring.
  Invite : Transition A
  GiveUp : Transition A
  -- Gather is entered.
  EnterGather : Transition A
  -- A join with the node's own sets: its sender agrees.
  Agree : (join : Join) → Transition A
  -- A join widens the node's sets.
  MergeJoin : (join : Join) → Transition A
  -- Gather is entered, and then the join is heard: its sender agrees, or it widens the sets.
  EnterGatherAndAgree : (join : Join) → Transition A
  EnterGatherAndMergeJoin : (join : Join) → Transition A
  -- A message is taken.
  Take : (message : Message A) → Transition A
  -- A token is accepted and visited.
  Visit : (token : Token) → Transition A
  -- The first round of a commit token takes it, or the second.
  Fill : (commit : CommitToken) → Transition A
  Learn : (commit : CommitToken) → Transition A

-- Messages: Token and window, rule 11

-- Messages of this ring are taken: of the running ring, and in Gather of the installed one, until the node takes part
-- in a newer ring.
abbrev pub takes_of : {A : Type 0} → State → Core A → RingId → Bool
takes_of Recovery c ring = same_ring ring c.running.ring
takes_of Operational c ring = same_ring ring c.running.ring
takes_of Gather c ring = same_ring ring c.installed.ring && (floor c == ring.seq)
takes_of Commit c ring = false
takes_of Stopped c ring = false

-- The members of the ring whose messages are taken.
abbrev pub members_of : {A : Type 0} → State → Core A → ℕ
members_of Gather c = c.installed.members
members_of Commit c = c.running.members
members_of Recovery c = c.running.members
members_of Operational c = c.running.members
members_of Stopped c = c.running.members

-- A message is taken: its ring's messages are taken, its sender is a member, and its number is new.
abbrev pub is_taken : {A : Type 0} → Core A → Message A → Bool
is_taken c x = takes_of c.state c x.ring && has (members_of c.state c) x.sender && takes_number c x.ring x.number

-- Any other message is ignored, as if lost.
abbrev pub decide_message : {A : Type 0} → Core A → Message A → Transition A
decide_message c x = if is_taken c x then Take x else Ignore

-- Tokens: visited in Recovery and Operational

-- The transition for a token, by state.
abbrev pub decide_token : {A : Type 0} → State → Core A → Token → Transition A
decide_token Recovery c t = if accepts c t then Visit t else Ignore
decide_token Operational c t = if accepts c t then Visit t else Ignore
decide_token Gather c t = Ignore
decide_token Commit c t = Ignore
decide_token Stopped c t = Ignore

-- Joins: heard in Gather; in other states some of them make the node enter Gather

-- The transition for a join in Gather, by its effect there.
abbrev pub transition_in_gather : {A : Type 0} → JoinEffect → Join → Transition A
transition_in_gather Ignored j = Ignore
transition_in_gather Agrees j = Agree j
transition_in_gather Merges j = MergeJoin j

-- The transition for a join that makes the node enter Gather, by its effect on the sets with which Gather begins.
abbrev pub transition_into_gather : {A : Type 0} → JoinEffect → Join → Transition A
transition_into_gather Ignored j = EnterGather
transition_into_gather Agrees j = EnterGatherAndAgree j
transition_into_gather Merges j = EnterGatherAndMergeJoin j

-- The transition for a join in Commit, Recovery or Operational: Gather is entered, or the join is ignored.
abbrev pub decide_join_elsewhere : {A : Type 0} → Core A → Join → Transition A
decide_join_elsewhere c j = if is_gather_trigger c j then transition_into_gather (join_effect_at (gather_entered c) j) j else Ignore

-- The transition for a join, by state.
abbrev pub decide_join : {A : Type 0} → State → Core A → Join → Transition A
decide_join Gather c j = transition_in_gather (join_effect_at c j) j
decide_join Commit c j = decide_join_elsewhere c j
decide_join Recovery c j = decide_join_elsewhere c j
decide_join Operational c j = decide_join_elsewhere c j
decide_join Stopped c j = Ignore

-- Commit tokens: taken only at the position of their hop, each round in its state

-- The transition for a commit token at its position, by state.
abbrev pub decide_round : {A : Type 0} → State → Core A → CommitToken → Transition A
decide_round Gather c k = if takes_first_round c k then Fill k else Ignore
decide_round Commit c k = if takes_second_round c k then Learn k else Ignore
decide_round Recovery c k = if takes_start c k then Visit (first_token k.ring) else Ignore
decide_round Operational c k = Ignore
decide_round Stopped c k = Ignore

-- The transition for a commit token: a node that isn't at the position of its hop ignores it.
abbrev pub decide_commit : {A : Type 0} → Core A → CommitToken → Transition A
decide_commit c k = if is_at c.me k then decide_round c.state c k else Ignore

-- Frames: each kind has its rule; a frame that names a processor outside the group is ignored

-- The transition for a frame, by its kind.
abbrev pub decide_frame : {A : Type 0} → Core A → Frame A → Transition A
decide_frame c (MessageFrame x) = decide_message c x
decide_frame c (TokenFrame t) = decide_token c.state c t
decide_frame c (JoinFrame j) = decide_join c.state c j
decide_frame c (CommitFrame k) = decide_commit c k

-- The transition for a frame, by whether it names only processors 1 to N.
abbrev pub decide_if_named : {A : Type 0} → Bool → Core A → Frame A → Transition A
decide_if_named true c frame = decide_frame c frame
decide_if_named false c frame = Ignore

-- Timeouts

-- The transition for a timeout, by state and kind.
abbrev pub decide_timeout : {A : Type 0} → State → Kind → Transition A
decide_timeout Gather Retransmit = Repeat
decide_timeout Gather JoinTime = Announce
decide_timeout Gather Consensus = GiveUp
decide_timeout Gather Loss = EnterGather
decide_timeout Commit Retransmit = Repeat
decide_timeout Commit JoinTime = Ignore
decide_timeout Commit Consensus = Ignore
decide_timeout Commit Loss = EnterGather
decide_timeout Recovery Retransmit = Repeat
decide_timeout Recovery JoinTime = Ignore
decide_timeout Recovery Consensus = Ignore
decide_timeout Recovery Loss = EnterGather
decide_timeout Operational Retransmit = Repeat
decide_timeout Operational JoinTime = Invite
decide_timeout Operational Consensus = Ignore
decide_timeout Operational Loss = EnterGather
decide_timeout Stopped kind = Ignore

-- Payloads: queued in Operational. End and Wrapped belong to recovery, and a visit makes the Packs

-- The transition for a payload in Operational.
abbrev pub decide_in_operational : {A : Type 0} → Payload A → Transition A
decide_in_operational payload = if is_queued payload then Enqueue payload else Ignore

-- The transition for a payload, by state.
abbrev pub decide_payload : {A : Type 0} → State → Payload A → Transition A
decide_payload Operational payload = decide_in_operational payload
decide_payload Gather payload = Ignore
decide_payload Commit payload = Ignore
decide_payload Recovery payload = Ignore
decide_payload Stopped payload = Ignore

-- The transition for an input.
abbrev pub decide : {A : Type 0} → Core A → Input A → Transition A
decide c (FrameInput frame) = decide_if_named (is_named c.total frame) c frame
decide c (Timeout kind) = decide_timeout c.state kind
decide c (Send payload) = decide_payload c.state payload
