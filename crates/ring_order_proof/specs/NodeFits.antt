-- A node that is within the limits of frames: each frame that it sends has an encoding, if the frames that it receives
-- are within the limits.
-- Rules: Limits 1
use Rattle.std.specs.Prelude.{◌≡◌, ℕ, ◌≤◌, false, List, [], ◌∷◌}
use Rattle.std.specs.List.{AllByRecursion as Each}
use Rattle.ring_wire.specs.Rings.{RingFits}
use Rattle.ring_payload.specs.Calls.{CallFits}
use Rattle.ring_payload.specs.Payloads.{PayloadFits}
use Rattle.ring_wire.specs.Frames.{FrameFits}
use Rattle.ring_wire.specs.Messages.{MessageFits}
use Rattle.ring_wire.specs.declared.message.Message.{Message}
use Rattle.ring_core_spec.specs.Giving.{may_install}
use Rattle.ring_core_spec.specs.State.{OutgoingFrame}
use Rattle.ring_core_spec.specs.Views.{mark}
use Rattle.ring_log.specs.Epochs.{Epoch}
use Rattle.ring_session.specs.Tickets.{TicketCall}
use Rattle.ring_node_spec.specs.Nodes.{Node}
use Rattle.ring_core_proof.specs.Limits.{CoreFits}
use Rattle.ring_log_proof.specs.Discipline.{DropsOnlyCommitted}

-- a message received in a ring of this number is within the limits; only in a ring of number 1 or more is any received
pub record HeardFits {A : Type 0} (n : ℕ) (x : Message A) : Type 0 where
  pub message : MessageFits x
  pub counted : 1 ≤ n

-- an epoch is within the limits: its ring, the messages received, and the payloads handed over
pub record EpochFits {A : Type 0} (s : Epoch A) : Type 0 where
  pub ring : RingFits s.ring
  pub heard : Each (HeardFits s.ring.seq) s.heard
  pub sent : Each PayloadFits s.sent

-- epochs are within the limits, and the newest ring has this number
abbrev pub EpochsFit : {A : Type 0} → ℕ → List (Epoch A) → Type 0
EpochsFit n [] = Unit {0}
EpochsFit n (s ∷ older) = EpochFits s × (s.ring.seq ≡ n) × Each EpochFits older

-- the safe mark of the newest ring is at most this number
abbrev pub IsMarkedUpTo : {A : Type 0} → ℕ → List (Epoch A) → Type 0
IsMarkedUpTo n [] = Unit {0}
IsMarkedUpTo n (s ∷ older) = s.mark ≤ n

-- the calls of tickets are within the limits
abbrev pub TicketsFit : {A : Type 0} → List (TicketCall A) → Type 0
TicketsFit {A} tickets = Each (λ (t : TicketCall A). CallFits t.call) tickets

-- a node is within the limits of frames: its core, its epochs' messages and payloads, and the calls of its tickets are
pub record NodeFits {A : Type 0} (n : Node A) : Type 0 where
  pub core : CoreFits n.core
  -- no installation is due in its core
  pub ready : may_install n.core ≡ false
  pub epochs : EpochsFit n.core.installed.ring.seq n.epochs
  -- the core's safe mark is at least the one that it reported
  pub safe : IsMarkedUpTo (mark n.core n.core.installed.ring) n.epochs
  -- only committed places were dropped
  pub drops : DropsOnlyCommitted n.group n.epochs
  pub tickets : TicketsFit n.tickets

-- all frames sent are within the limits
abbrev pub SendsFit : {A : Type 0} → List (OutgoingFrame A) → Type 0
SendsFit {A} sends = Each (λ (s : OutgoingFrame A). FrameFits s.frame) sends
