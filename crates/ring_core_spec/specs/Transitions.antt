-- The effect of each transition, and whether a proposal may follow it.
-- Rules: Gather 7, 8, 10, 11 and 13; Recovery 6
use Rattle.std.specs.Prelude.{Bool, true, false, ◌&&◌, List, [], ◌∷◌, ◌++◌, Option, Some, None}
use Rattle.ring_token.specs.Frames.{Message}
use Rattle.ring_join.specs.Gathering.{with_agreement, join_merged, silent_given_up}
use Rattle.ring_recover.specs.Wrapping.{inner_messages}
use Rattle.ring_base.specs.declared.state.State.{State}
use Rattle.ring_base.specs.declared.state.State.TheVariants.{Gather, Commit, Recovery, Operational, Stopped}
use Rattle.ring_core_spec.specs.State.{Core, OutgoingFrame, TransitionResult}
use Rattle.ring_core_spec.specs.Views.{mark}
use Rattle.ring_core_spec.specs.Visiting.{token_visited}
use Rattle.ring_core_spec.specs.Joining.{gather_entered, with_gathering, join_announcement, join_invitation, proposes}
use Rattle.ring_core_spec.specs.CommitSteps.{after_proposal, commit_filled, commit_learned}
use Rattle.ring_core_spec.specs.Deciding.{Transition, Ignore, Enqueue, Repeat, Announce, Invite, GiveUp, EnterGather, Agree, MergeJoin}
use Rattle.ring_core_spec.specs.Deciding.{EnterGatherAndAgree, EnterGatherAndMergeJoin, Take, Visit, Fill, Learn}

-- The core, with nothing sent.
abbrev pub without_sends : {A : Type 0} → Core A → TransitionResult A
without_sends c = record { core = c; sends = [] }

-- The core, which sends its own join with its present sets.
abbrev pub with_announcement : {A : Type 0} → Core A → TransitionResult A
with_announcement c = record { core = c; sends = join_announcement c ∷ [] }

-- The kept token, sent to the same receiver again, if there is one.
abbrev pub last_sent_repeated : {A : Type 0} → Option (OutgoingFrame A) → List (OutgoingFrame A)
last_sent_repeated None = []
last_sent_repeated (Some s) = s ∷ []

-- The old ring's messages that a taken message brings: in Recovery its inner message, otherwise none.
abbrev pub old_ring_messages : {A : Type 0} → State → Core A → Message A → List (Message A)
old_ring_messages Recovery c x = inner_messages c.installed.ring (mark c c.installed.ring) c.held x.payload
old_ring_messages Gather c x = []
old_ring_messages Commit c x = []
old_ring_messages Operational c x = []
old_ring_messages Stopped c x = []

-- The core after it takes a message: it holds the message, and in Recovery also its inner message, if that is new in
-- the old ring.
abbrev pub message_taken : {A : Type 0} → Core A → Message A → Core A
message_taken c x = record c { held = old_ring_messages c.state c x ++ x ∷ c.held }

-- The effect of each transition.
abbrev pub apply_transition : {A : Type 0} → Core A → Transition A → TransitionResult A
apply_transition c Ignore = without_sends c
apply_transition c (Enqueue payload) = without_sends (record c { queue = c.queue ++ payload ∷ [] })
apply_transition c Repeat = record { core = c; sends = last_sent_repeated c.last_sent }
apply_transition c Announce = with_announcement c
apply_transition c Invite = record { core = c; sends = join_invitation c ∷ [] }
apply_transition c GiveUp = with_announcement (with_gathering c (silent_given_up c.me c.gathering))
apply_transition c EnterGather = with_announcement (gather_entered c)
apply_transition c (Agree j) = without_sends (with_gathering c (with_agreement c.gathering j))
apply_transition c (MergeJoin j) = with_announcement (with_gathering c (join_merged c.me c.gathering j))
apply_transition c (EnterGatherAndAgree j) = with_announcement (with_gathering (gather_entered c) (with_agreement (gather_entered c).gathering j))
apply_transition c (EnterGatherAndMergeJoin j) = with_announcement (with_gathering (gather_entered c) (join_merged c.me (gather_entered c).gathering j))
apply_transition c (Take x) = without_sends (message_taken c x)
apply_transition c (Visit t) = token_visited c t
apply_transition c (Fill k) = commit_filled c k
apply_transition c (Learn k) = commit_learned c k

-- After a timeout, or a frame that isn't ignored, a node in Gather may propose

-- A proposal may follow this transition.
abbrev pub may_propose_after : {A : Type 0} → Transition A → Bool
may_propose_after Ignore = false
may_propose_after (Enqueue payload) = false
may_propose_after Repeat = true
may_propose_after Announce = true
may_propose_after Invite = true
may_propose_after GiveUp = true
may_propose_after EnterGather = true
may_propose_after (Agree j) = true
may_propose_after (MergeJoin j) = true
may_propose_after (EnterGatherAndAgree j) = true
may_propose_after (EnterGatherAndMergeJoin j) = true
may_propose_after (Take x) = true
may_propose_after (Visit t) = true
may_propose_after (Fill k) = true
may_propose_after (Learn k) = true

-- A transition's result with a proposal, if one follows; its commit token comes after the other sends.
abbrev pub with_proposal_if : {A : Type 0} → Bool → TransitionResult A → TransitionResult A
with_proposal_if false did = did
with_proposal_if true did = record { core = (after_proposal did.core).core; sends = did.sends ++ (after_proposal did.core).sends }

-- A transition's result, with a proposal if one may follow and the core may propose.
abbrev pub proposal_if_may_follow : {A : Type 0} → Bool → TransitionResult A → TransitionResult A
proposal_if_may_follow follows did = with_proposal_if (follows && proposes did.core) did

-- The result of a transition, and of the proposal that may follow it.
abbrev pub transition_and_proposal : {A : Type 0} → Core A → Transition A → TransitionResult A
transition_and_proposal c a = proposal_if_may_follow (may_propose_after a) (apply_transition c a)
