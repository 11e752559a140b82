-- Six moves that make up every change of a ring core. Each step of the definition is at most three of them, and then
-- its outputs. The conditions of a move are weaker than the tests of the definition, so that proofs about moves use
-- no more than is stated here. How a core chooses its sets in Gather, which joins it hears and when a timeout is due
-- play no part.
-- Rules: Rings and states 13
use Rattle.std.specs.Prelude.{◌≡◌, ℕ, ◌+◌, ◌-◌, ◌*◌, ◌<◌, ◌≤◌, ◌⊎◌, Bool, true, false, List, [], ◌∷◌, ◌++◌, reverse, length, Option, Some, None, slice_get}
use Rattle.std.specs.List.{AllByRecursion}
use Rattle.ring_base.specs.Numbers.{window_size}
use Rattle.ring_base.specs.Processors.{has, at, size}
use Rattle.ring_base.specs.declared.state.State.{State}
use Rattle.ring_base.specs.declared.state.State.TheVariants.{Gather, Commit, Recovery, Operational, Stopped}
use Rattle.ring_payload.specs.PayloadKinds.{is_user, payload_of}
use Rattle.ring_payload.specs.declared.content.Payload.{Payload}
use Rattle.ring_payload.specs.declared.content.Payload.TheVariants.{Wrapped, End}
use Rattle.ring_payload.specs.declared.content.Wrapped.{Wrapped as WrappedMessage}
use Rattle.ring_wire.specs.declared.commit.CommitToken.{CommitToken}
use Rattle.ring_wire.specs.declared.frame.Frame.{Frame}
use Rattle.ring_wire.specs.declared.frame.Frame.TheVariants.{Message as MessageFrame, Token as TokenFrame, Join as JoinFrame, Commit as CommitFrame}
use Rattle.ring_wire.specs.declared.join.Join.{Join}
use Rattle.ring_wire.specs.declared.message.Message.{Message}
use Rattle.ring_wire.specs.declared.token.Token.{Token}
use Rattle.ring_core_spec.specs.Windows.{found, of_ring, highest, front_of}
use Rattle.ring_core_spec.specs.Tokens.{TokenVisit, first_token, is_newer, numbered, token_after}
use Rattle.ring_core_spec.specs.Joins.{Gathering, AllHaveOwnSets}
use Rattle.ring_core_spec.specs.Commits.{is_sound, position_of_hop, receiver, hop_with_entries, is_own}
use Rattle.ring_core_spec.specs.Recoveries.{is_ready, is_complete, low, is_wrap_of, is_wrapped, has_ended, inner_message}
use Rattle.ring_core_spec.specs.State.{Core, OutgoingFrame, TransitionResult, floor}
use Rattle.ring_core_spec.specs.Views.{mark, takes_number, own_entry, plan}
use Rattle.ring_core_spec.specs.Visiting.{to_others, to_next}
use Rattle.ring_core_spec.specs.CommitSteps.{ring_joined, commit_learned}
use Rattle.ring_core_spec.specs.Transitions.{message_taken}
use Rattle.ring_core_spec.specs.Giving.{may_install, install, step_result}
use Rattle.ring_core_spec.specs.Stepping.{ring_step}
use Rattle.ring_core_spec.specs.declared.input.Input.{Input}
use Rattle.ring_core_spec.specs.declared.input.Input.TheVariants.{Frame as FrameInput}
use Rattle.ring_core_proof.specs.FactWords.{IsIn, SomeIs}
use Rattle.ring_core_proof.specs.Worlds.{Transmission}

-- One of the six moves of a core, with its data.
pub data Move (A : Type 0) : Type 0 where
  -- No fact is added: the state, the sets or the queue change; joins are sent, or the kept token again.
  Idles : (state : State) → (gathering : Gathering) → (last_sent : Option (OutgoingFrame A)) → (queue : List (Payload A)) → (sends : List (OutgoingFrame A)) → Move A
  -- The core takes part in a ring: by a commit token of the first round, or by a proposal, which has hop 0 and no
  -- entries.
  Enters : (commit : CommitToken) → Move A
  -- The full commit token arrives in the second round: Recovery begins.
  Learns : (commit : CommitToken) → Move A
  -- A token is visited: it is forwarded with these new payloads and these requests, after these messages are sent
  -- again, and leaves this queue.
  Visits : (token : Token) → (fresh : List (Payload A)) → (requests : List ℕ) → (again : List (Message A)) → (queue : List (Payload A)) → Move A
  -- A message is taken.
  Takes : (message : Message A) → Move A
  -- The running ring is installed.
  Installs : Move A

-- The effect of each move

-- The messages held in a visit, the new ones first.
abbrev pub held_in : {A : Type 0} → Core A → Token → List (Payload A) → List (Message A)
held_in c t fresh = reverse (numbered t.ring c.me t.seq fresh) ++ c.held

-- The forwarded token.
abbrev pub forwarded_with : {A : Type 0} → Core A → Token → List (Payload A) → List ℕ → Token
forwarded_with c t fresh requests = token_after c.me (front_of (held_in c t fresh) t.ring) (length fresh) requests t

-- The visit as a fact.
abbrev pub turn_with : {A : Type 0} → Core A → Token → List (Payload A) → List ℕ → TokenVisit A
turn_with c t fresh requests = record { received = t; front = front_of (held_in c t fresh) t.ring; fresh = fresh; forwarded = forwarded_with c t fresh requests }

-- The core after a move.
abbrev pub core_after_move : {A : Type 0} → Core A → Move A → Core A
core_after_move c (Idles state gathering last_sent queue sends) = record c { state = state; gathering = gathering; last_sent = last_sent; queue = queue }
core_after_move c (Enters k) = (ring_joined c (hop_with_entries k (own_entry c ∷ []))).core
core_after_move c (Learns k) = (commit_learned c k).core
core_after_move c (Visits t fresh requests again queue) =
    record c {
      held = held_in c t fresh;
      turns = turn_with c t fresh requests ∷ c.turns;
      queue = queue;
      last_sent = Some (to_next c (forwarded_with c t fresh requests));
    }
core_after_move c (Takes x) = message_taken c x
core_after_move c Installs = install c

-- The frames that a move sends.
abbrev pub sends_of : {A : Type 0} → Core A → Move A → List (OutgoingFrame A)
sends_of c (Idles state gathering last_sent queue sends) = sends
sends_of c (Enters k) = (ring_joined c (hop_with_entries k (own_entry c ∷ []))).sends
sends_of c (Learns k) = (commit_learned c k).sends
sends_of c (Visits t fresh requests again queue) = to_others c (again ++ numbered t.ring c.me t.seq fresh) ++ to_next c (forwarded_with c t fresh requests) ∷ []
sends_of c (Takes x) = []
sends_of c Installs = []

-- The core after a move, with the frames that the move sends.
abbrev pub move_result : {A : Type 0} → Core A → Move A → TransitionResult A
move_result c m = record { core = core_after_move c m; sends = sends_of c m }

-- The conditions of each move. `received` are the frames that arrived at the core

-- All of these are user payloads.
abbrev pub AllAreUsers : {A : Type 0} → List (Payload A) → Type 0
AllAreUsers ps = AllByRecursion (λ (p : Payload _). is_user p ≡ true) ps

-- A join, or the kept token again.
abbrev pub IsRepeated : {A : Type 0} → Option (OutgoingFrame A) → OutgoingFrame A → Type 0
IsRepeated last_sent s = (last_sent ≡ Some s) ⊎ ((j : Join) × (s.frame ≡ JoinFrame j))

-- The state becomes Gather or Stopped or stays; the kept token stays or is dropped; only joins and the kept token are
-- sent; the facts about the queue and the counted joins stay true.
pub record MayIdle {A : Type 0} (c : Core A) (state : State) (gathering : Gathering) (last_sent : Option (OutgoingFrame A))
    (queue : List (Payload A)) (sends : List (OutgoingFrame A)) : Type 0 where
  pub leaves : (state ≡ c.state) ⊎ ((state ≡ Gather) ⊎ (state ≡ Stopped))
  pub joins : AllHaveOwnSets c.gathering → AllHaveOwnSets gathering
  pub shows : (last_sent ≡ None) ⊎ (last_sent ≡ c.last_sent)
  pub queued : AllAreUsers c.queue → AllAreUsers queue
  pub sent : AllByRecursion (IsRepeated c.last_sent) sends

-- A proposal of the core itself: hop 0, and no entry yet.
pub record IsProposal (me : ℕ) (k : CommitToken) : Type 0 where
  pub hop : k.hop ≡ 0
  pub entries : k.entries ≡ []
  pub rep : k.ring.rep ≡ me

-- The core is in Gather, at the position of the hop in the first round, and the ring is above the floor.
pub record MayEnter {A : Type 0} (received : Frame A → Type 0) (c : Core A) (k : CommitToken) : Type 0 where
  pub state : c.state ≡ Gather
  pub above : floor c < k.ring.seq
  pub first : 1 ≤ c.me → k.hop < size k.members
  pub here : receiver k ≡ c.me
  pub from : IsProposal c.me k ⊎ received (CommitFrame k)

-- The core is in Commit, at the position of the hop in the second round, and the ring is its newest; its own entry is
-- in the token, and no transitional member reports a front below a safe mark.
pub record MayLearn {A : Type 0} (received : Frame A → Type 0) (c : Core A) (k : CommitToken) : Type 0 where
  pub state : c.state ≡ Commit
  pub ring : k.ring ≡ c.running.ring
  pub members : k.members ≡ c.running.members
  pub second : size k.members ≤ k.hop
  pub last : k.hop < 2 * size k.members
  pub here : receiver k ≡ c.me
  pub own : is_own (own_entry c) (slice_get k.entries (position_of_hop k)) ≡ true
  pub sound : is_sound c.installed.ring k.entries ≡ true
  pub from : received (CommitFrame k)

-- A number of the installed ring is seen wrapped: a message held of the running ring wraps it.
abbrev pub is_seen : {A : Type 0} → Core A → ℕ → Bool
is_seen c n = is_wrapped (of_ring c.running.ring c.held) c.installed.ring n

-- A Wrapped of a message of the installed ring: the user message held under its number, above the least front and not
-- yet seen wrapped.
pub record IsHandedOn {A : Type 0} (c : Core A) (w : WrappedMessage A) : Type 0 where
  pub ring : w.ring ≡ c.installed.ring
  pub user : is_user (payload_of w.payload) ≡ true
  pub above : low (plan c) < w.number
  pub held : found c.held w.ring w.number ≡ Some (inner_message w)
  pub unseen : is_seen c w.number ≡ false

-- The payload is a Wrapped of a message that is left to wrap.
abbrev pub IsWrapping : {A : Type 0} → Core A → Payload A → Type 0
IsWrapping {A} c p = (w : WrappedMessage A) × (p ≡ Wrapped w) × IsHandedOn c w

-- Each payload wraps a greater number than the one before it.
abbrev pub AreRising : {A : Type 0} → ℕ → List (Payload A) → Type 0
AreRising below [] = Unit {0}
AreRising {A} below (p ∷ ps) = (w : WrappedMessage A) × (p ≡ Wrapped w) × (below < w.number) × AreRising w.number ps

-- Nothing but these is left to wrap: if a user message of the installed ring is held above the least front, its number
-- is seen wrapped, or one of these wraps it.
abbrev pub AreLast : {A : Type 0} → Core A → List (Payload A) → Type 0
AreLast {A} c wraps =
    (n : ℕ) (x : Message A) → low (plan c) < n → found c.held c.installed.ring n ≡ Some x → is_user x.payload ≡ true →
    (is_seen c n ≡ true) ⊎ SomeIs (λ p. is_wrap_of c.installed.ring n p ≡ true) wraps

-- One End, after the last message left to wrap, if the core holds no End of its own yet.
pub record MayEnd {A : Type 0} (c : Core A) (wraps ends : List (Payload A)) : Type 0 where
  pub one : ends ≡ End ∷ []
  pub first : has_ended c.me c.running.ring c.held ≡ false
  pub last : AreLast c wraps

-- The new payloads in Recovery: first Wrapped, ascending, and then at most one End.
pub record AreWraps {A : Type 0} (c : Core A) (fresh : List (Payload A)) : Type 0 where
  pub wraps : List (Payload A)
  pub ends : List (Payload A)
  pub parts : fresh ≡ wraps ++ ends
  pub handed : AllByRecursion (IsWrapping c) wraps
  pub rising : AreRising (low (plan c)) wraps
  pub ended : (ends ≡ []) ⊎ MayEnd c wraps ends

-- The first token, at the representative.
pub record IsStart {A : Type 0} (c : Core A) (t : Token) : Type 0 where
  pub token : t ≡ first_token c.running.ring
  pub first : at c.running.members 0 ≡ c.me

-- The token is of the running ring, newer than each visited one, and its `seq` covers what is held; the new messages
-- fit the window after the safe mark, are user messages in Operational, and in Recovery Wrapped and the End; the
-- messages sent again are held.
pub record MayVisit {A : Type 0} (received : Frame A → Type 0) (c : Core A) (t : Token) (fresh : List (Payload A))
    (again : List (Message A)) (queue : List (Payload A)) : Type 0 where
  pub state : (c.state ≡ Recovery) ⊎ (c.state ≡ Operational)
  pub ring : t.ring ≡ c.running.ring
  pub newer : is_newer c.turns t ≡ true
  pub ahead : highest c.held t.ring ≤ t.seq
  pub room : length fresh ≤ mark c t.ring + window_size - t.seq
  pub users : c.state ≡ Operational → AllAreUsers c.queue → AllAreUsers fresh
  pub wraps : c.state ≡ Recovery → AreWraps c fresh
  pub repeats : AllByRecursion (λ (x : Message A). IsIn x c.held) again
  pub queued : AllAreUsers c.queue → AllAreUsers queue
  pub from : IsStart c t ⊎ received (TokenFrame t)

-- A ring runs: the message is of that ring, and a member sent it.
pub record TakesFrom {A : Type 0} (c : Core A) (x : Message A) : Type 0 where
  pub state : (c.state ≡ Recovery) ⊎ (c.state ≡ Operational)
  pub ring : x.ring ≡ c.running.ring
  pub sender : has c.running.members x.sender ≡ true

-- In Gather, before a newer ring is taken part in: the message is of the installed ring, and a member sent it.
pub record TakesLate {A : Type 0} (c : Core A) (x : Message A) : Type 0 where
  pub state : c.state ≡ Gather
  pub ring : x.ring ≡ c.installed.ring
  pub newest : floor c ≡ x.ring.seq
  pub sender : has c.installed.members x.sender ≡ true

-- A message arrived, of a ring whose messages are taken by one of these two rules; its number is new and in the window.
pub record MayTake {A : Type 0} (received : Frame A → Type 0) (c : Core A) (x : Message A) : Type 0 where
  pub ring : TakesFrom c x ⊎ TakesLate c x
  pub new : takes_number c x.ring x.number ≡ true
  pub from : received (MessageFrame x)

-- The core is in Recovery, every member's End is in the front, and the core holds every number that a transitional
-- member holds.
pub record MayInstall {A : Type 0} (c : Core A) : Type 0 where
  pub state : c.state ≡ Recovery
  pub ready : is_ready c.held c.running.ring c.running.members (mark c c.running.ring) ≡ true
  pub complete : is_complete (plan c) c.held ≡ true

-- A core may make a move: its conditions hold, and the frame that causes it, if any, arrived at the core.
abbrev pub MayMove : {A : Type 0} → (Frame A → Type 0) → Core A → Move A → Type 0
MayMove received c (Idles state gathering last_sent queue sends) = MayIdle c state gathering last_sent queue sends
MayMove received c (Enters k) = MayEnter received c k
MayMove received c (Learns k) = MayLearn received c k
MayMove received c (Visits t fresh requests again queue) = MayVisit received c t fresh again queue
MayMove received c (Takes x) = MayTake received c x
MayMove received c Installs = MayInstall c

-- Lists of moves

-- The core after a list of moves.
abbrev pub after_moves : {A : Type 0} → Core A → List (Move A) → Core A
after_moves c [] = c
after_moves c (m ∷ ms) = after_moves (core_after_move c m) ms

-- All frames that they send.
abbrev pub all_sends : {A : Type 0} → Core A → List (Move A) → List (OutgoingFrame A)
all_sends c [] = []
all_sends c (m ∷ ms) = sends_of c m ++ all_sends (core_after_move c m) ms

-- The conditions of each hold when it is made.
abbrev pub MayAll : {A : Type 0} → (Frame A → Type 0) → Core A → List (Move A) → Type 0
MayAll received c [] = Unit {0}
MayAll received c (m ∷ ms) = MayMove received c m × MayAll received (core_after_move c m) ms

-- The frame was sent to this processor.
abbrev pub IsReceivedFrame : {A : Type 0} → List (Transmission A) → ℕ → Frame A → Type 0
IsReceivedFrame frames i frame = SomeIs (λ (f : Transmission _). (has f.to i ≡ true) × (f.frame ≡ frame)) frames

-- A step of the definition: one or two moves, the outputs, and perhaps an installation.
pub record IsMoved {A : Type 0} (c : Core A) (input : Input A) : Type 0 where
  pub moves : List (Move A)
  pub few : length moves ≤ 2
  pub may : MayAll (λ frame. input ≡ FrameInput frame) c moves
  pub step : ring_step c input ≡ step_result c (record { core = after_moves c moves; sends = all_sends c moves })
  pub installs : may_install (after_moves c moves) ≡ true → MayInstall (after_moves c moves)
