-- Inputs, events, cores and outputs within the limits of frames. A frame is within them if it has an encoding.
-- Rules: Limits 1
use Rattle.std.specs.Prelude.{◌≡◌, ℕ, ◌^◌, ◌<◌, ◌≤◌, List, Some}
use Rattle.std.specs.List.{AllByRecursion}
use Rattle.ring_base.specs.Processors.{IsProc, IsMember, IsSubset, max_processors}
use Rattle.ring_wire.specs.Rings.{RingFits}
use Rattle.ring_payload.specs.declared.content.Payload.{Payload}
use Rattle.ring_payload.specs.Payloads.{PayloadFits}
use Rattle.ring_wire.specs.Messages.{MessageFits}
use Rattle.ring_wire.specs.Frames.{FrameFits}
use Rattle.ring_core_spec.specs.Joins.{Gathering}
use Rattle.ring_core_spec.specs.Commits.{Configuration}
use Rattle.ring_core_spec.specs.declared.input.Input.{Input}
use Rattle.ring_core_spec.specs.declared.input.Input.TheVariants.{Frame as FrameInput, Timeout as TimeInput, Send as SendInput}
use Rattle.ring_core_spec.specs.declared.out.Out.{Out}
use Rattle.ring_core_spec.specs.declared.out.Out.TheVariants.{Send as SendOut, Agreed, Safe, Trans, Rest, Regular}
use Rattle.ring_core_spec.specs.State.{Core, OutgoingFrame}
use Rattle.ring_core_proof.specs.declared.event.RingEvent.{RingEvent}
use Rattle.ring_core_proof.specs.declared.event.RingEvent.TheVariants.{Send, Deliver, Timeout, Stop}
use Rattle.ring_core_proof.specs.Moves.{AllAreUsers}
use Rattle.ring_core_proof.specs.WindowBounds.{IsCoreInWindow, HasOrderedRings}
use Rattle.ring_core_proof.specs.Worlds.{Transmission, World}

-- Inputs and outputs

-- An input is within the limits: a frame has an encoding, and a payload to send is within those of payloads.
abbrev pub InputFits : {A : Type 0} → Input A → Type 0
InputFits (FrameInput frame) = FrameFits frame
InputFits (TimeInput kind) = Unit {0}
InputFits (SendInput payload) = PayloadFits payload

-- An event is within the limits: a payload to send is; a delivered frame was sent, so nothing is required of it.
abbrev pub EventFits : {A : Type 0} → RingEvent A → Type 0
EventFits (Send i payload) = PayloadFits payload
EventFits (Deliver i k) = Unit {0}
EventFits (Timeout i kind) = Unit {0}
EventFits (Stop i) = Unit {0}

-- An output is within the limits: the frame that it sends has an encoding.
abbrev pub OutFits : {A : Type 0} → Out A → Type 0
OutFits (SendOut to frame) = FrameFits frame
OutFits (Agreed ring n x) = Unit {0}
OutFits (Safe ring upto) = Unit {0}
OutFits (Trans old new set) = Unit {0}
OutFits (Rest ring n x) = Unit {0}
OutFits (Regular ring set) = Unit {0}

-- A core

-- The ring's name and members are in range, and the processor is a member.
pub record RingFitsIn (me : ℕ) (x : Configuration) : Type 0 where
  pub ring : RingFits x.ring
  pub members : x.members < 2 ^ 16
  pub mine : IsMember x.members me

-- The sets are in range, the node is a candidate, and only processors of `proc_set` are given up.
pub record GatheringFits (me : ℕ) (g : Gathering) : Type 0 where
  pub proc_set : g.proc_set < 2 ^ 16
  pub fail_set : g.fail_set < 2 ^ 16
  pub mine : IsMember g.proc_set me
  pub alive : IsMember g.fail_set me → ⊥
  pub failed_in : IsSubset g.fail_set g.proc_set

-- Each payload in the queue is within the limits and is a user payload.
pub record QueueFits {A : Type 0} (queue : List (Payload A)) : Type 0 where
  pub each : AllByRecursion PayloadFits queue
  pub users : AllAreUsers queue

-- A core is within the limits of frames: its processors, rings and sets are in range; what it queues, holds and keeps
-- to send again is within limits; marks are at most fronts, all that is held lies within the window, and its rings fit
-- its state.
pub record CoreFits {A : Type 0} (c : Core A) : Type 0 where
  pub me : IsProc c.me
  pub among : c.me ≤ c.total
  pub total : c.total ≤ max_processors
  pub running : RingFitsIn c.me c.running
  pub installed : RingFitsIn c.me c.installed
  -- A ring of number 0 is the processor's own.
  pub own : c.installed.ring.seq ≡ 0 → c.installed.ring.rep ≡ c.me
  pub gathering : GatheringFits c.me c.gathering
  pub queue : QueueFits c.queue
  pub held : AllByRecursion MessageFits c.held
  pub last_sent : (s : OutgoingFrame A) → c.last_sent ≡ Some s → FrameFits s.frame
  pub window : IsCoreInWindow c
  pub placed : HasOrderedRings c

-- A world

-- Each processor's core is within the limits, and so is each frame ever sent.
pub record WorldFits {A : Type 0} (w : World A) : Type 0 where
  pub cores : (i : ℕ) → 1 ≤ i → i ≤ w.total → CoreFits (w.cores i)
  pub frames : AllByRecursion (λ (f : Transmission A). FrameFits f.frame) w.frames

-- The frame is within the limits.
abbrev pub SentFits : {A : Type 0} → OutgoingFrame A → Type 0
SentFits s = FrameFits s.frame
