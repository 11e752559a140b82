-- The size of what one event adds to a world: at most the frames, items and reports of one step.
use Rattle.std.proofs.Common.{◌≡◌, ℕ, ◌+◌, ◌≤◌, Bool, true, false, List, [], ◌∷◌, ◌++◌, length, Option, Some, None, refl, arith}
use Rattle.std.specs.List.{AllByRecursion as Each}
use Rattle.std.proofs.lemmas.List.{length-append, length-map}
use Rattle.ring_base.specs.Group.{Group}
use Rattle.ring_base.specs.Processors.{has}
use Rattle.ring_base.specs.declared.fault.Fault.{Fault}
use Rattle.ring_object.specs.Operations.{Sequential}
use Rattle.ring_payload.specs.declared.call.Call.{Call}
use Rattle.ring_session.specs.SessionAnswer.{reply_of_answer}
use Rattle.ring_wire.specs.Frames.{FrameFits}
use Rattle.ring_wire.specs.declared.frame.Frame.{Frame}
use Rattle.ring_core_spec.specs.State.{OutgoingFrame, Transmission, frame_at}
use Rattle.ring_session.specs.declared.ticket_answer.TicketAnswer.{TicketAnswer}
use Rattle.ring_node_spec.specs.declared.input.Input.{Input as NodeInput}
use Rattle.ring_node_spec.specs.declared.input.Input.TheVariants.{Frame as NodeFrame, Timeout as NodeTime}
use Rattle.ring_node_spec.specs.NodeLimits.{InputFits as NodeInputFits}
use Rattle.ring_node_spec.specs.Stepping.{node_step, submit_fault}
use Rattle.ring_node_spec.specs.declared.event.Event.{Event}
use Rattle.ring_node_spec.specs.declared.event.Event.TheVariants.{Issue, Deliver, Noise, Timeout, Stop}
use Rattle.ring_node_spec.specs.declared.client_report.Told.TheVariants.{Answer as ToldAnswer}
use Rattle.ring_node_spec.specs.WorldLimits.{EventFits}
use Rattle.ring_node_spec.specs.Worlds.{World, world_opening, carried_frames, reply_items, reply_items_of, reports_of_answers, is_node, world_after_submit}
use Rattle.ring_node_spec.specs.Worlds.{world_after_submit_if_member, world_after_stop_if_member, world_after_input_if_member, world_after_receipt_if_sent, world_after_delivery, world_after_event, run}
use Rattle.ring_order_proof.proofs.SendCounts.{few_sends}
use Rattle.ring_order_proof.proofs.AnswerCounts.{few_answers}
use Rattle.ring_order_proof.proofs.PendingTickets.{HasFew, pending_few}
use Rattle.ring_order_proof.proofs.WorldLimits.{world_fits, sent_fits}

-- at most 64 are added
abbrev pub Adds : {X : Type 0} → List X → List X → Type 0
Adds old new = length new ≤ length old + 64

pub record GrowsLittle {A : Type 0} (w after : World A) : Type 0 where
  pub frames : Adds w.frames after.frames
  pub history : Adds w.history after.history
  pub told : Adds w.told after.told

adds_few : {X : Type 0} → (xs ys : List X) → length ys ≤ 64 → Adds xs (xs ++ ys)
adds_few xs ys l = omega (arith, length-append xs ys, l)

same_grows : {A : Type 0} → (w : World A) → GrowsLittle w w
same_grows w = record { frames = omega arith; history = omega arith; told = omega arith }

one_replied : {A : Type 0} → (c : Call A) (o : Option (List ℕ)) → length (reply_items c o) ≤ 1
one_replied c None = omega arith
one_replied c (Some r) = omega arith

few_items : {A : Type 0} → (answers : List (TicketAnswer A)) → length (reply_items_of answers) ≤ length answers
few_items [] = omega arith
few_items (a ∷ rest) =
    omega (arith, length-append (reply_items a.call (reply_of_answer a.answer)) (reply_items_of rest), one_replied a.call (reply_of_answer a.answer), few_items rest)

length-carried_frames : {A : Type 0} → (i : ℕ) (sends : List (OutgoingFrame A)) → length (carried_frames i sends) ≡ length sends
length-carried_frames {A} i sends = length-map sends (λ (s : OutgoingFrame A). record { from = i; to = s.to; frame = s.frame })

length-told : {A : Type 0} → (i : ℕ) (answers : List (TicketAnswer A)) → length (reports_of_answers i answers) ≡ length answers
length-told {A} i answers = length-map answers (λ (a : TicketAnswer A). ToldAnswer i a.call a.answer)

module _ {O A : Type 0} (object : Sequential O) (w : World A) (few : (i : ℕ) → HasFew (w.nodes i)) where
  step_grows : (i : ℕ) (input : NodeInput A) (b : Bool) → NodeInputFits input → GrowsLittle w (world_after_input_if_member object b w i input)
  step_grows i input false h = same_grows w
  step_grows i input true h =
      let s = node_step object (w.nodes i) input in
      let answers : length s.answers ≤ 64 = omega (arith, few_answers object (w.nodes i) input, few i) in
      record {
        frames = adds_few w.frames (carried_frames i s.sends) (omega (arith, length-carried_frames i s.sends, few_sends object (w.nodes i) input h));
        history = adds_few w.history (reply_items_of s.answers) (omega (arith, few_items s.answers, answers));
        told = adds_few w.told (reports_of_answers i s.answers) (omega (arith, length-told i s.answers, answers));
      }

  issue_grows : (i : ℕ) (c : Call A) (fault : Option Fault) → GrowsLittle w (world_after_submit fault w i c)
  issue_grows i c (Some fault) = record { frames = omega arith; history = omega arith; told = adds_few w.told _ (omega arith) }
  issue_grows i c None = record { frames = omega arith; history = adds_few w.history _ (omega arith); told = omega arith }

  issued_grows : (i : ℕ) (c : Call A) (b : Bool) → GrowsLittle w (world_after_submit_if_member b w i c)
  issued_grows i c false = same_grows w
  issued_grows i c true = issue_grows i c (submit_fault (w.nodes i))

  stop_grows : (i : ℕ) (b : Bool) → GrowsLittle w (world_after_stop_if_member b w i)
  stop_grows i false = same_grows w
  stop_grows i true = record { frames = omega arith; history = omega arith; told = omega arith }

  frame_grows : (i : ℕ) (frame : Frame A) (b : Bool) → FrameFits frame → GrowsLittle w (world_after_receipt_if_sent object b w i frame)
  frame_grows i frame false h = same_grows w
  frame_grows i frame true h = step_grows i (NodeFrame frame) (is_node w i) h

  hand_grows : (i k : ℕ) (o : Option (Transmission A)) → ((f : Transmission A) → o ≡ Some f → FrameFits f.frame) → GrowsLittle w (world_after_delivery object w i o)
  hand_grows i k None h = same_grows w
  hand_grows i k (Some g) h = frame_grows i g.frame (has g.to i) (h g refl)

  event_grows : (e : Event A) → ((number : ℕ) (f : Transmission A) → frame_at w.frames number ≡ Some f → FrameFits f.frame) → GrowsLittle w (world_after_event object w e)
  event_grows (Issue i c) h = issued_grows i c (is_node w i)
  event_grows (Deliver i k) h = hand_grows i k (frame_at w.frames k) (h k)
  event_grows (Noise i bytes) h = same_grows w
  event_grows (Timeout i kind) h = step_grows i (NodeTime kind) (is_node w i) tt
  event_grows (Stop i) h = stop_grows i (is_node w i)

pub run_grows : {O A : Type 0} → (object : Sequential O) (group : Group) (events : List (Event A)) (e : Event A) → group.count ≤ 16 → Each EventFits events →
    GrowsLittle (run object (world_opening group) events) (world_after_event object (run object (world_opening group) events) e)
run_grows object group events e most h =
    let w = run object (world_opening group) events in
    event_grows object w (pending_few object group events) e (λ number f. sent_fits group w number f (world_fits object group events most h))
