-- The definitions that the laws of cores use: what a transition has tested, and what holds after any inputs.
-- Rules: Rings and states 8; Gather 12 and 13; The commit token 4 to 8; Token and window 6 to 9 and 11; Recovery 4
use Rattle.std.specs.Prelude.{◌≡◌, ℕ, ◌-◌, ◌<◌, ◌≤◌, ◌⊎◌, true, List, [], ◌∷◌, ◌++◌, length, take}
use Rattle.std.specs.List.{AllByRecursion}
use Rattle.ring_base.specs.Numbers.{max_number, visit_limit}
use Rattle.ring_base.specs.declared.ring_id.RingId.{RingId}
use Rattle.ring_payload.specs.declared.content.Payload.{Payload}
use Rattle.ring_payload.specs.declared.content.Payload.TheVariants.{End}
use Rattle.ring_payload.specs.Packing.{is_queued, AreQueued, packed_payloads}
use Rattle.ring_wire.specs.declared.commit.CommitToken.{CommitToken}
use Rattle.ring_wire.specs.declared.frame.Frame.TheVariants.{Message as MessageFrame, Token as TokenFrame, Join as JoinFrame, Commit as CommitFrame}
use Rattle.ring_wire.specs.declared.join.Join.{Join}
use Rattle.ring_wire.specs.declared.message.Message.{Message}
use Rattle.ring_wire.specs.declared.token.Token.{Token}
use Rattle.ring_core_spec.specs.Windows.{front_of}
use Rattle.ring_core_spec.specs.Tokens.{TokenVisit, first_token, token_after}
use Rattle.ring_core_spec.specs.Joins.{JoinEffect, Ignored, Agrees, Merges}
use Rattle.ring_core_spec.specs.Commits.{Configuration, is_start, is_at}
use Rattle.ring_core_spec.specs.Recoveries.{Plan, wraps_and_end}
use Rattle.ring_base.specs.declared.timeout_kind.Kind.TheVariants.{Retransmit, Join as JoinTime, Consensus, Loss}
use Rattle.ring_core_spec.specs.declared.input.Input.{Input}
use Rattle.ring_core_spec.specs.declared.input.Input.TheVariants.{Frame as FrameInput, Timeout as TimeInput, Send as SendInput}
use Rattle.ring_base.specs.declared.state.State.{State}
use Rattle.ring_base.specs.declared.state.State.TheVariants.{Gather, Commit, Recovery, Operational, Stopped}
use Rattle.ring_core_spec.specs.State.{Core}
use Rattle.ring_core_spec.specs.Visiting.{accepts}
use Rattle.ring_core_spec.specs.Joining.{gather_entered, join_effect_at, is_gather_trigger}
use Rattle.ring_core_spec.specs.CommitSteps.{takes_first_round, takes_second_round}
use Rattle.ring_core_spec.specs.Deciding.{Transition, Ignore, Enqueue, Repeat, Announce, Invite, GiveUp, EnterGather, Agree, MergeJoin}
use Rattle.ring_core_spec.specs.Deciding.{EnterGatherAndAgree, EnterGatherAndMergeJoin, Take, Visit, Fill, Learn, is_taken, decide}
use Rattle.ring_core_proof.specs.FactWords.{IsIn}
use Rattle.ring_core_proof.specs.Moves.{AreLast}

-- A ring runs.
abbrev pub IsRunning : State → Type 0
IsRunning s = (s ≡ Recovery) ⊎ (s ≡ Operational)

-- A join may make a node in this state enter Gather.
abbrev pub IsAway : State → Type 0
IsAway s = (s ≡ Commit) ⊎ ((s ≡ Recovery) ⊎ (s ≡ Operational))

-- A join makes the core enter Gather, and has this effect on the sets with which Gather begins.
pub record LeadsToGather {A : Type 0} (c : Core A) (j : Join) (join_effect : JoinEffect) : Type 0 where
  pub state : IsAway c.state
  pub passes : is_gather_trigger c j ≡ true
  pub effect_is : join_effect_at (gather_entered c) j ≡ join_effect

-- A commit token of the first round is at the member that its hop goes to, which is in Gather, and passes the tests of
-- the round.
pub record PassesFirst {A : Type 0} (c : Core A) (k : CommitToken) : Type 0 where
  pub state : c.state ≡ Gather
  pub here : is_at c.me k ≡ true
  pub passes : takes_first_round c k ≡ true

-- The same for the second round, in Commit.
pub record PassesSecond {A : Type 0} (c : Core A) (k : CommitToken) : Type 0 where
  pub state : c.state ≡ Commit
  pub here : is_at c.me k ≡ true
  pub passes : takes_second_round c k ≡ true

-- The tests that a transition has passed.
abbrev pub HasPassed : {A : Type 0} → Core A → Transition A → Type 0
HasPassed c Ignore = Unit {0}
HasPassed c (Enqueue payload) = (c.state ≡ Operational) × (is_queued payload ≡ true)
HasPassed c Repeat = c.state ≡ Stopped → ⊥
HasPassed c Announce = c.state ≡ Gather
HasPassed c Invite = c.state ≡ Operational
HasPassed c GiveUp = c.state ≡ Gather
HasPassed c EnterGather = c.state ≡ Stopped → ⊥
HasPassed c (Agree j) = (c.state ≡ Gather) × (join_effect_at c j ≡ Agrees)
HasPassed c (MergeJoin j) = (c.state ≡ Gather) × (join_effect_at c j ≡ Merges)
HasPassed c (EnterGatherAndAgree j) = LeadsToGather c j Agrees
HasPassed c (EnterGatherAndMergeJoin j) = LeadsToGather c j Merges
HasPassed c (Take x) = is_taken c x ≡ true
HasPassed c (Visit t) = IsRunning c.state × (accepts c t ≡ true)
HasPassed c (Fill k) = PassesFirst c k
HasPassed c (Learn k) = PassesSecond c k

-- A join makes the core enter Gather, and has no effect there.
pub record LeavesBy {A : Type 0} (c : Core A) (input : Input A) : Type 0 where
  pub join : Join
  pub received : input ≡ FrameInput (JoinFrame join)
  pub leads : LeadsToGather c join Ignored

-- A commit token has returned to the representative and starts this token.
pub record StartsWith {A : Type 0} (c : Core A) (input : Input A) (t : Token) : Type 0 where
  pub commit : CommitToken
  pub received : input ≡ FrameInput (CommitFrame commit)
  pub state : c.state ≡ Recovery
  pub here : is_at c.me commit ≡ true
  pub starts : is_start c.running commit ≡ true
  pub first : t ≡ first_token commit.ring

-- The transition is about this input.
abbrev pub IsInputOf : {A : Type 0} → Core A → Input A → Transition A → Type 0
IsInputOf c input Ignore = Unit {0}
IsInputOf c input (Enqueue payload) = input ≡ SendInput payload
IsInputOf c input Repeat = input ≡ TimeInput Retransmit
IsInputOf c input Announce = input ≡ TimeInput JoinTime
IsInputOf c input Invite = input ≡ TimeInput JoinTime
IsInputOf c input GiveUp = input ≡ TimeInput Consensus
IsInputOf c input EnterGather = (input ≡ TimeInput Loss) ⊎ LeavesBy c input
IsInputOf c input (Agree j) = input ≡ FrameInput (JoinFrame j)
IsInputOf c input (MergeJoin j) = input ≡ FrameInput (JoinFrame j)
IsInputOf c input (EnterGatherAndAgree j) = input ≡ FrameInput (JoinFrame j)
IsInputOf c input (EnterGatherAndMergeJoin j) = input ≡ FrameInput (JoinFrame j)
IsInputOf c input (Take x) = input ≡ FrameInput (MessageFrame x)
IsInputOf c input (Visit t) = (input ≡ FrameInput (TokenFrame t)) ⊎ StartsWith c input t
IsInputOf c input (Fill k) = input ≡ FrameInput (CommitFrame k)
IsInputOf c input (Learn k) = input ≡ FrameInput (CommitFrame k)

-- The ring numbers strictly fall along a list, which is newest first.
abbrev pub IsFalling : List Configuration → Type 0
IsFalling [] = Unit {0}
IsFalling (x ∷ []) = Unit {0}
IsFalling (x ∷ y ∷ rest) = (y.ring.seq < x.ring.seq) × IsFalling (y ∷ rest)

-- A core doesn't ignore a commit token.
abbrev pub TakesCommit : {A : Type 0} → Core A → CommitToken → Type 0
TakesCommit c k = decide c (FrameInput (CommitFrame k)) ≡ Ignore → ⊥

-- A visit follows the rules: it forwards the token by them, its front is at most the forwarded `seq`, and the front has
-- only grown since.
pub record IsTurnOf {A : Type 0} (me : ℕ) (held : List (Message A)) (v : TokenVisit A) : Type 0 where
  pub goes : v.forwarded ≡ token_after me v.front (length v.fresh) v.forwarded.requests v.received
  pub within : v.front ≤ v.forwarded.seq
  pub grown : v.front ≤ front_of held v.received.ring

-- Each of these visits follows the rules.
abbrev pub AreTurnsOf : {A : Type 0} → ℕ → List (Message A) → List (TokenVisit A) → Type 0
AreTurnsOf me held turns = AllByRecursion (IsTurnOf me held) turns

-- In Operational the new payloads are the first that some queue makes, and that queue holds no Pack.
pub record AreOfQueue {A : Type 0} (fresh : List (Payload A)) : Type 0 where
  pub count : ℕ
  pub queue : List (Payload A)
  pub queued : AreQueued queue
  pub made : fresh ≡ packed_payloads count queue

-- In Recovery they are the first of the Wrapped of some plan, from what the core held then, and of its End after them.
pub record AreOfRecovery {A : Type 0} (me : ℕ) (ring : RingId) (held : List (Message A)) (fresh : List (Payload A)) : Type 0 where
  pub count : ℕ
  pub plan : Plan
  pub later : List (Message A)
  pub before : List (Message A)
  pub grown : later ++ before ≡ held
  pub made : fresh ≡ take count (wraps_and_end me plan ring before)

-- The new payloads of a visit: at most as many as a visit may send, none past the greatest number, and made in one of
-- the two ways.
pub record IsFreshOf {A : Type 0} (me : ℕ) (held : List (Message A)) (v : TokenVisit A) : Type 0 where
  pub few : length v.fresh ≤ visit_limit
  pub numbered : length v.fresh ≤ max_number - v.received.seq
  pub made : AreOfQueue v.fresh ⊎ AreOfRecovery me v.received.ring held v.fresh

-- The new payloads of all these visits are within these bounds and made in one of the two ways.
abbrev pub AreFreshOf : {A : Type 0} → ℕ → List (Message A) → List (TokenVisit A) → Type 0
AreFreshOf me held turns = AllByRecursion (IsFreshOf me held) turns

-- A visit of the running ring that sent an End left nothing to wrap: each user message of the installed ring that is
-- held above the least front is seen wrapped.
abbrev pub EndsWrapping : {A : Type 0} → Core A → TokenVisit A → Type 0
EndsWrapping c v = v.received.ring ≡ c.running.ring → IsIn End v.fresh → AreLast c []

-- In Recovery, each visit of the core that sent an End left nothing to wrap.
abbrev pub HasEnded : {A : Type 0} → Core A → Type 0
HasEnded c = c.state ≡ Recovery → AllByRecursion (EndsWrapping c) c.turns
