-- A processor's ring core: its present state, and its facts, which record all that ever happened to it. Each list of
-- facts is newest first, and no fact ever leaves it. What the program forgets is never read again.
-- Rules: Rings and states 3 to 6 and 14
use Rattle.std.specs.Prelude.{ℕ, zero, suc, Bool, true, false, if◌then◌else◌, List, [], ◌∷◌, ◌++◌, map, Option, Some, None, slice_get}
use Rattle.ring_base.specs.Processors.{has, only, everybody, elements}
use Rattle.ring_base.specs.declared.ring_id.RingId.{RingId}
use Rattle.ring_token.specs.Payloads.{Payload}
use Rattle.ring_token.specs.Frames.{CommitToken, CommitEntry, Frame, Message}
use Rattle.ring_token.specs.TokenVisits.{TokenVisit, MarkRaise}
use Rattle.ring_join.specs.Gathering.{Gathering, gathering_opening}
use Rattle.ring_recover.specs.Commits.{Configuration}
use Rattle.ring_core_spec.specs.declared.out.Out.{Out}
use Rattle.ring_base.specs.declared.state.State.{State}
use Rattle.ring_base.specs.declared.state.State.TheVariants.{Gather, Commit, Recovery, Operational, Stopped}

-- A frame with the set of its receivers.
pub record OutgoingFrame (A : Type 0) : Type 0 where
  pub to : ℕ
  pub frame : Frame A

-- A frame sent, with its sender and its receivers.
pub record Transmission (A : Type 0) : Type 0 where
  pub from : ℕ
  pub to : ℕ
  pub frame : Frame A

-- The frame of number k; frames are numbered from 1.
abbrev pub frame_at : {A : Type 0} → List (Transmission A) → ℕ → Option (Transmission A)
frame_at frames zero = None
frame_at frames (suc k) = slice_get frames k

-- The frame, if it was sent to this processor.
abbrev pub frame_for : {A : Type 0} → ℕ → Option (Transmission A) → Option (Frame A)
frame_for i None = None
frame_for i (Some f) = if has f.to i then Some f.frame else None

-- All pairs of frame number and receiver, for a list of frames whose first has number k.
abbrev pub receiver_pairs : {A : Type 0} → ℕ → List (Transmission A) → List (ℕ × ℕ)
receiver_pairs k [] = []
receiver_pairs k (f ∷ rest) = map (λ i. (k, i)) (elements f.to) ++ receiver_pairs (suc k) rest

-- An entry that a processor reported when it took part in a ring.
pub record Report : Type 0 where
  pub ring : RingId
  pub entry : CommitEntry

-- A processor's ring core: its present state, then its facts, over all rings and newest first.
pub record Core (A : Type 0) : Type 0 where
  pub me : ℕ
  -- The number of processors.
  pub total : ℕ
  pub state : State
  -- The newest ring taken part in: proposed, running or left; its number is the floor.
  pub running : Configuration
  -- The last installed ring.
  pub installed : Configuration
  -- Sets and agreement in Gather.
  pub gathering : Gathering
  -- The last token or commit token sent since Gather was entered.
  pub last_sent : Option (OutgoingFrame A)
  -- The send queue: payloads to send as new messages.
  pub queue : List (Payload A)
  -- The rings taken part in, and the rings installed.
  pub rings : List Configuration
  pub installs : List Configuration
  -- The messages taken, sent or unwrapped.
  pub held : List (Message A)
  -- The visits of the token, and the safe marks of old rings raised by plans.
  pub turns : List (TokenVisit A)
  pub raises : List MarkRaise
  -- The node's own reports, and the full commit tokens with which it entered Recovery.
  pub reports : List Report
  pub plans : List CommitToken

-- The greatest ring number taken part in.
abbrev pub floor : {A : Type 0} → Core A → ℕ
floor c = c.running.ring.seq

-- A core after a transition, with the frames it sent.
pub record TransitionResult (A : Type 0) : Type 0 where
  pub core : Core A
  pub sends : List (OutgoingFrame A)

-- A core after a step, with the step's outputs.
pub record StepResult (A : Type 0) : Type 0 where
  pub core : Core A
  pub outs : List (Out A)

-- Openings

-- The opening ring of a processor: (0, me), with only itself as a member.
abbrev pub opening_ring : ℕ → Configuration
opening_ring me = record { ring = record { seq = 0; rep = me }; members = only me }

-- The core of processor me of n at the opening.
abbrev pub opening : {A : Type 0} → ℕ → ℕ → Core A
opening n me =
    record {
      me = me;
      total = n;
      state = Gather;
      running = opening_ring me;
      installed = opening_ring me;
      gathering = gathering_opening (everybody n);
      last_sent = None;
      queue = [];
      rings = opening_ring me ∷ [];
      installs = opening_ring me ∷ [];
      held = [];
      turns = [];
      raises = [];
      reports = [];
      plans = [];
    }

-- The formed ring: (1, 1), of all n.
abbrev pub formed_ring_of : ℕ → Configuration
formed_ring_of n = record { ring = record { seq = 1; rep = 1 }; members = everybody n }

-- The core of processor me of n in the formed ring, with nothing held.
abbrev pub formed : {A : Type 0} → ℕ → ℕ → Core A
formed n me = record (opening n me) { state = Operational; running = formed_ring_of n; installed = formed_ring_of n; rings = formed_ring_of n ∷ []; installs = formed_ring_of n ∷ [] }

-- A core after a stop.
abbrev pub halted : {A : Type 0} → Core A → Core A
halted c = record c { state = Stopped }

-- The state is Stopped, which a core never leaves.
abbrev pub is_stopped : State → Bool
is_stopped Stopped = true
is_stopped Gather = false
is_stopped Commit = false
is_stopped Recovery = false
is_stopped Operational = false
