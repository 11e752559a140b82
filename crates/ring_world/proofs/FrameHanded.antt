-- The input of a step: the frame that was sent to its node, or a timeout.
use Rattle.std.proofs.Common.{◌≡◌, ℕ, Bool, true, false, if◌then◌else◌, List, Option, Some, None, refl, ap, ◌∙◌, sym, subst}
use Rattle.std.specs.Prelude.{option_map, is_some}
use Rattle.std.specs.List.{AllByRecursion as Each}
use Rattle.ring_base.specs.Processors.{has}
use Rattle.ring_base.proofs.Cases.{some_of, none_of}
use Rattle.ring_object.specs.Operations.{Sequential}
use Rattle.ring_wire.specs.declared.frame.Frame.{Frame}
use Rattle.ring_wire.specs.Frames.{FrameFits}
use Rattle.ring_core_spec.specs.State.{Transmission, frame_at, frame_for}
use Rattle.ring_core_spec.proofs.Carrying.{at_fits, one_fits}
use Rattle.ring_node_spec.specs.NodeLimits.{InputFits}
use Rattle.ring_node_spec.specs.declared.event.Event.{Event}
use Rattle.ring_node_spec.specs.declared.event.Event.TheVariants.{Issue, Deliver, Noise, Timeout, Stop}
use Rattle.ring_node_spec.specs.declared.input.Input.{Input}
use Rattle.ring_node_spec.specs.declared.input.Input.TheVariants.{Frame as FrameInput, Timeout as TimeInput}
use Rattle.ring_node_spec.specs.WorldLimits.{EventFits}
use Rattle.ring_node_spec.specs.Worlds.{World, is_node, world_after_event, world_after_node_step, world_after_input_if_member, world_after_delivery, world_after_receipt_if_sent}
use Rattle.ring_world.specs.WorldView.{WorldView, world_of, receiver_of_frame, stepping_node_in}
use Rattle.ring_world.specs.Steps.{stepping_node, delivered_frame, event_input}

module _ {O A : Type 0} (object : Sequential O) where
  -- the world after a step by an input, if there is an input
  abbrev pub takes : World A → ℕ → Option (Input A) → World A
  takes w i None = w
  takes w i (Some input) = world_after_node_step object w i input

  hands_if : (b : Bool) (w : World A) (i : ℕ) (frame : Frame A) → world_after_receipt_if_sent object b w i frame
      ≡ takes w i (option_map (λ (f : Frame A). FrameInput f) (if b then Some frame else None))
  hands_if true w i frame = refl
  hands_if false w i frame = refl

  handed_is : (w : World A) (i : ℕ) (o : Option (Transmission A)) → world_after_delivery object w i o
      ≡ takes w i (option_map (λ (f : Frame A). FrameInput f) (frame_for i o))
  handed_is w i None = refl
  handed_is w i (Some f) = hands_if (has f.to i) w i f.frame

  -- an event that may be a step is one by that input
  pub event_is : (w : World A) (e : Event A) (i : ℕ) → stepping_node e ≡ Some i → world_after_event object w e ≡ takes w i (event_input e (delivered_frame e w.frames))
  event_is w (Deliver j k) i e =
      let same : j ≡ i = cc e in
      subst (λ x. world_after_event object w (Deliver j k) ≡ takes w x (event_input (Deliver j k) (delivered_frame (Deliver j k) w.frames))) same
      (handed_is w j (frame_at w.frames k))
  event_is w (Timeout j kind) i e =
      let same : j ≡ i = cc e in
      subst (λ x. world_after_node_step object w j (TimeInput kind) ≡ world_after_node_step object w x (TimeInput kind)) same refl
  event_is w (Issue j c) i e = absurd (let q : ⊥ = cc e in q)
  event_is w (Noise j bytes) i e = absurd (let q : ⊥ = cc e in q)
  event_is w (Stop j) i e = absurd (let q : ⊥ = cc e in q)

-- The input is within its limits

by_fits : {A : Type 0} (o : Option (Frame A)) (input : Input A) → ((frame : Frame A) → o ≡ Some frame → FrameFits frame)
    → option_map (λ (f : Frame A). FrameInput f) o ≡ Some input → InputFits input
by_fits None input h e = absurd (let q : ⊥ = cc e in q)
by_fits (Some f) input h e = (let same : FrameInput f ≡ input = cc e in subst InputFits same (h f refl))

pub input_fits : {A : Type 0} (frames : List (Transmission A)) (e : Event A) (input : Input A) → Each (λ (g : Transmission A). FrameFits g.frame) frames
    → event_input e (delivered_frame e frames) ≡ Some input → InputFits input
input_fits frames (Deliver i k) input h e =
    by_fits (frame_for i (frame_at frames k)) input (λ frame is. one_fits (frame_at frames k) i frame (λ f. at_fits frames k f h) is) e
input_fits frames (Timeout i kind) input h e = (let same : TimeInput kind ≡ input = cc e in subst InputFits same tt)
input_fits frames (Issue i c) input h e = absurd (let q : ⊥ = cc e in q)
input_fits frames (Noise i bytes) input h e = absurd (let q : ⊥ = cc e in q)
input_fits frames (Stop i) input h e = absurd (let q : ⊥ = cc e in q)

-- The event is a step of the node

sent_if : {A : Type 0} (b : Bool) (i : ℕ) (f : Frame A) (input : Input A)
    → option_map (λ (f : Frame A). FrameInput f) (if b then Some f else None) ≡ Some input → (if b then Some i else None) ≡ Some i
sent_if true i f input e = refl
sent_if false i f input e = absurd (let q : ⊥ = cc e in q)

sent_it : {A : Type 0} (i : ℕ) (o : Option (Transmission A)) (input : Input A)
    → option_map (λ (f : Frame A). FrameInput f) (frame_for i o) ≡ Some input → receiver_of_frame i o ≡ Some i
sent_it i None input e = absurd (let q : ⊥ = cc e in q)
sent_it i (Some f) input e = sent_if (has f.to i) i f.frame input e

pub steps_it : {A : Type 0} (w : World A) (e : Event A) (i : ℕ) (input : Input A) → stepping_node e ≡ Some i
    → event_input e (delivered_frame e w.frames) ≡ Some input → stepping_node_in w e ≡ Some i
steps_it w (Deliver j k) i input s e = sent_it j (frame_at w.frames k) input e ∙ s
steps_it w (Timeout j kind) i input s e = s
steps_it w (Issue j c) i input s e = absurd (let q : ⊥ = cc s in q)
steps_it w (Noise j bytes) i input s e = absurd (let q : ⊥ = cc s in q)
steps_it w (Stop j) i input s e = absurd (let q : ⊥ = cc s in q)

-- What was read

pub step_fits : {A : Type 0} (e : Event A) (i : ℕ) → stepping_node e ≡ Some i → EventFits e
step_fits (Deliver j k) i s = tt
step_fits (Timeout j kind) i s = tt
step_fits (Issue j c) i s = absurd (let q : ⊥ = cc s in q)
step_fits (Noise j bytes) i s = tt
step_fits (Stop j) i s = tt

-- the event is a step of the node, by the input with the frame in `place`
pub record IsStepBy {O A : Type 0} (object : Sequential O) (old : WorldView A) (e : Event A) (i : ℕ) (place : Option (Frame A)) : Type 0 where
  pub input : Input A
  pub there : event_input e place ≡ Some input
  pub fits : InputFits input
  pub same : world_after_event object (world_of object old) e ≡ world_after_node_step object (world_of object old) i input
  pub steps : stepping_node_in (world_of object old) e ≡ Some i

module _ {O A : Type 0} (object : Sequential O) {p old : WorldView A} {frames : List (Transmission A)} (e : Event A) (i : ℕ) (was : p ≡ old)
    (frames_are : frames ≡ (world_of object p).frames) (may : stepping_node e ≡ Some i) where
  now_is : world_after_event object (world_of object old) e ≡ takes object (world_of object old) i (event_input e (delivered_frame e frames))
  now_is = event_is object (world_of object old) e i may
      ∙ ap (λ fs. takes object (world_of object old) i (event_input e (delivered_frame e fs)))
      (ap (λ (r : WorldView A). (world_of object r).frames) (sym was) ∙ sym frames_are)

  takes_none : (o : Option (Input A)) → o ≡ None → takes object (world_of object old) i o ≡ world_of object old
  takes_none o none = ap (takes object (world_of object old) i) none

  unknown_takes : (o : Option (Input A)) → is_node (world_of object old) i ≡ false → takes object (world_of object old) i o ≡ world_of object old
  unknown_takes None none = refl
  unknown_takes (Some input) none = ap (λ b. world_after_input_if_member object b (world_of object old) i input) none

  -- there is no such node
  pub unknown_step : is_node (world_of object old) i ≡ false → world_after_event object (world_of object old) e ≡ world_of object old
  unknown_step none = now_is ∙ unknown_takes (event_input e (delivered_frame e frames)) none

  module _ {is : Bool} (is_is : is ≡ is_some (event_input e (delivered_frame e frames))) where
    -- there is no such frame
    pub not_read : is ≡ false → world_after_event object (world_of object old) e ≡ world_of object old
    not_read missing = now_is ∙ takes_none (event_input e (delivered_frame e frames)) (none_of (event_input e (delivered_frame e frames)) (sym is_is ∙ missing))

    pub read : {place : Option (Frame A)} → (is ≡ true → event_input e place ≡ event_input e (delivered_frame e frames)) → is ≡ true
        → Each (λ (f : Transmission A). FrameFits f.frame) (world_of object p).frames → IsStepBy object old e i place
    read {place} placed there fit =
        let w = world_of object old in
        let found = some_of (event_input e (delivered_frame e frames)) (sym is_is ∙ there) in
        let sent : frames ≡ w.frames = frames_are ∙ ap (λ (r : WorldView A). (world_of object r).frames) was in
        record {
          input = found.0;
          there = placed there ∙ found.1;
          fits = input_fits frames e found.0 (subst (Each (λ (f : Transmission A). FrameFits f.frame)) (sym frames_are) fit) found.1;
          same = now_is ∙ ap (takes object w i) found.1;
          steps = steps_it w e i found.0 may (ap (λ fs. event_input e (delivered_frame e fs)) (sym sent) ∙ found.1);
        }
