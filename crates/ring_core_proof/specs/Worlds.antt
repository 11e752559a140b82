-- Worlds of ring cores: the cores, all frames ever sent, and all outputs; and how an event changes a world.
-- Rules: Rings and states 5, 14 and 15
use Rattle.std.specs.Prelude.{ℕ, Bool, true, false, ◌&&◌, ◌==◌, nat_le, if◌then◌else◌, List, [], ◌∷◌, ◌++◌}
use Rattle.std.specs.Prelude.{map, filter, filter_map, Option, Some, None}
use Rattle.ring_base.specs.Processors.{has}
use Rattle.ring_base.specs.declared.timeout_kind.Kind.{Kind}
use Rattle.ring_base.specs.declared.timeout_kind.Kind.TheVariants.{Retransmit, Join as JoinTime, Consensus, Loss}
use Rattle.ring_wire.specs.declared.frame.Frame.{Frame}
use Rattle.ring_core_spec.specs.Tokens.{first_token}
use Rattle.ring_core_spec.specs.declared.input.Input.{Input}
use Rattle.ring_core_spec.specs.declared.input.Input.TheVariants.{Frame as FrameInput, Timeout as TimeInput, Send as SendInput}
use Rattle.ring_core_spec.specs.declared.out.Out.{Out}
use Rattle.ring_core_spec.specs.declared.out.Out.TheVariants.{Send as SendOut, Agreed, Safe, Trans, Rest, Regular}
pub use Rattle.ring_core_spec.specs.State.{Transmission}
use Rattle.ring_core_spec.specs.State.{Core, OutgoingFrame, TransitionResult, StepResult, formed_ring_of, opening, formed, halted, frame_at}
use Rattle.ring_core_spec.specs.Visiting.{token_visited}
use Rattle.ring_core_spec.specs.Giving.{sends_with_receivers}
use Rattle.ring_core_spec.specs.Stepping.{ring_step}
use Rattle.ring_core_proof.specs.declared.event.RingEvent.{RingEvent}
use Rattle.ring_core_proof.specs.declared.event.RingEvent.TheVariants.{Send, Deliver, Timeout, Stop}

-- A world of ring cores: the cores of its processors, all frames ever sent, and all outputs.
pub record World (A : Type 0) : Type 0 where
  -- The number of processors, which are numbered 1 to `total`.
  pub total : ℕ
  pub cores : ℕ → Core A
  -- All frames ever sent, in order; the first is frame 1.
  pub frames : List (Transmission A)
  -- All outputs in order, each with its processor.
  pub outs : List (ℕ × Out A)

-- Steps

-- The cores with that of one processor replaced.
abbrev pub with_core : {A : Type 0} → (ℕ → Core A) → ℕ → Core A → ℕ → Core A
with_core cores i c j = if j == i then c else cores j

-- The frame of an output, with its sender and receivers.
abbrev pub transmission_by : {A : Type 0} → ℕ → Out A → Option (Transmission A)
transmission_by i (SendOut to frame) = Some (record { from = i; to = to; frame = frame })
transmission_by i (Agreed ring n x) = None
transmission_by i (Safe ring upto) = None
transmission_by i (Trans old new set) = None
transmission_by i (Rest ring n x) = None
transmission_by i (Regular ring set) = None

-- A world after a step of one core.
abbrev pub after_step : {A : Type 0} → World A → ℕ → StepResult A → World A
after_step w i s =
    record w {
      cores = with_core w.cores i s.core;
      frames = w.frames ++ filter_map (transmission_by i) s.outs;
      outs = w.outs ++ map (λ o. (i, o)) s.outs;
    }

-- The processor is one of the world's.
abbrev pub is_node : {A : Type 0} → World A → ℕ → Bool
is_node w i = nat_le 1 i && nat_le i w.total

-- A step of a processor's core with an input, if the processor exists.
abbrev pub stepped_if : {A : Type 0} → Bool → World A → ℕ → Input A → World A
stepped_if false w i input = w
stepped_if true w i input = after_step w i (ring_step (w.cores i) input)

-- The same; an unknown processor changes nothing.
abbrev pub stepped : {A : Type 0} → World A → ℕ → Input A → World A
stepped w i input = stepped_if (is_node w i) w i input

-- A stop of a processor's core, if the processor exists; there are no outputs.
abbrev pub stopped_if : {A : Type 0} → Bool → World A → ℕ → World A
stopped_if false w i = w
stopped_if true w i = record w { cores = with_core w.cores i (halted (w.cores i)) }

-- A frame arrives at a processor, if it was sent to it.
abbrev pub handed_if : {A : Type 0} → Bool → World A → ℕ → Frame A → World A
handed_if false w i frame = w
handed_if true w i frame = stepped w i (FrameInput frame)

-- The same; a frame that wasn't sent, or not to this processor, changes nothing.
abbrev pub handed : {A : Type 0} → World A → ℕ → Option (Transmission A) → World A
handed w i None = w
handed w i (Some f) = handed_if (has f.to i) w i f.frame

-- The world after an event.
abbrev pub world_after_event : {A : Type 0} → World A → RingEvent A → World A
world_after_event w (Send i payload) = stepped w i (SendInput payload)
world_after_event w (Deliver i k) = handed w i (frame_at w.frames k)
world_after_event w (Timeout i kind) = stepped w i (TimeInput kind)
world_after_event w (Stop i) = stopped_if (is_node w i) w i

-- The world after a list of events, in order.
abbrev pub run : {A : Type 0} → World A → List (RingEvent A) → World A
run w [] = w
run w (e ∷ es) = run (world_after_event w e) es

-- Openings

-- The opening: all n in Gather, each alone.
abbrev pub unformed : {A : Type 0} → ℕ → World A
unformed n = record { total = n; cores = opening n; frames = []; outs = [] }

-- The frames of these sends, as sent by processor i.
abbrev pub transmissions_from : {A : Type 0} → ℕ → List (OutgoingFrame A) → List (Transmission A)
transmissions_from i sends = map (λ s. record { from = i; to = s.to; frame = s.frame }) (sends_with_receivers sends)

-- The representative of the formed ring of n, after it visited the first token.
abbrev pub representative_started : {A : Type 0} → ℕ → TransitionResult A
representative_started n = token_visited (formed n 1) (first_token (formed_ring_of n).ring)

-- The formed ring: all n in one ring.
abbrev pub ring_formed : {A : Type 0} → ℕ → World A
ring_formed n = record { total = n; cores = with_core (formed n) 1 (representative_started n).core; frames = transmissions_from 1 (representative_started n).sends; outs = [] }

-- Of the timeouts, only retransmit has an effect in a formed ring.
abbrev pub is_repeat : Kind → Bool
is_repeat Retransmit = true
is_repeat JoinTime = false
is_repeat Consensus = false
is_repeat Loss = false

-- The events that have an effect in a formed ring: all except the other three timeouts.
abbrev pub has_effect_on_formed : {A : Type 0} → RingEvent A → Bool
has_effect_on_formed (Timeout i kind) = is_repeat kind
has_effect_on_formed (Send i payload) = true
has_effect_on_formed (Deliver i k) = true
has_effect_on_formed (Stop i) = true

-- The world after these events from the formed ring of n; those that have no effect there are left out.
abbrev pub run_formed : {A : Type 0} → ℕ → List (RingEvent A) → World A
run_formed n events = run (ring_formed n) (filter has_effect_on_formed events)
