-- In every run whose issued calls keep the limits, so does each call that a node hands over.
use Rattle.std.proofs.Common.{ℕ, Bool, true, false, List, [], ◌∷◌, Option, Some, None}
use Rattle.std.specs.List.{AllByRecursion as Each}
use Rattle.ring_base.specs.Processors.{has}
use Rattle.ring_base.specs.declared.fault.Fault.{Fault}
use Rattle.ring_base.proofs.Each.{each-append, each-get}
use Rattle.ring_object.specs.Operations.{Sequential}
use Rattle.ring_payload.specs.declared.call.Call.{Call}
use Rattle.ring_core_spec.specs.State.{Transmission, frame_at}
use Rattle.ring_session.specs.Snapshots.{KeepsLimits}
use Rattle.ring_session.specs.SessionAnswer.{reply_of_answer}
use Rattle.ring_session.specs.declared.ticket_answer.TicketAnswer.{TicketAnswer}
use Rattle.ring_node_spec.specs.declared.input.Input.{Input}
use Rattle.ring_node_spec.specs.declared.input.Input.TheVariants.{Frame as FrameInput, Timeout as TimeInput}
use Rattle.ring_node_spec.specs.Stepping.{node_step, submit_fault}
use Rattle.ring_node_spec.specs.declared.event.Event.{Event}
use Rattle.ring_node_spec.specs.declared.event.Event.TheVariants.{Issue, Deliver, Noise, Timeout, Stop}
use Rattle.ring_node_spec.specs.declared.item.Item.{Item}
use Rattle.ring_node_spec.specs.declared.item.Item.TheVariants.{Issue as IssuedItem, Reply as ReplyItem}
use Rattle.ring_node_spec.specs.Worlds.{World, is_node, reply_items, reply_items_of, world_after_submit, world_after_submit_if_member, world_after_stop_if_member, world_after_input_if_member, world_after_receipt_if_sent, world_after_delivery, world_after_event, run}
use Rattle.ring_order_proof.specs.Linear.{IsEventCallWithinLimits}
use Rattle.ring_order_proof.proofs.IssuedInWorlds.{IssuedIn}

abbrev ItemKeeps : {A : Type 0} → Item A → Type 0
ItemKeeps (IssuedItem c) = KeepsLimits c
ItemKeeps (ReplyItem c r) = Unit {0}

abbrev pub HistoryKeeps : {A : Type 0} → World A → Type 0
HistoryKeeps w = Each ItemKeeps w.history

reply_items-keeps : {A : Type 0} (c : Call A) (o : Option (List ℕ)) → Each ItemKeeps (reply_items c o)
reply_items-keeps c None = tt
reply_items-keeps c (Some r) = (tt, tt)

items-keep : {A : Type 0} (answers : List (TicketAnswer A)) → Each ItemKeeps (reply_items_of answers)
items-keep [] = tt
items-keep (a ∷ rest) = each-append ItemKeeps (reply_items a.call (reply_of_answer a.answer)) (reply_items_of rest) (reply_items-keeps a.call (reply_of_answer a.answer)) (items-keep rest)

module _ {O A : Type 0} (object : Sequential O) where
  stepped-keeps : (w : World A) (b : Bool) (i : ℕ) (input : Input A) → HistoryKeeps w → HistoryKeeps (world_after_input_if_member object b w i input)
  stepped-keeps w false i input h = h
  stepped-keeps w true i input h =
      let s = node_step object (w.nodes i) input in
      each-append ItemKeeps w.history (reply_items_of s.answers) h (items-keep s.answers)

  issued-keeps : (w : World A) (o : Option Fault) (i : ℕ) (c : Call A) → KeepsLimits c → HistoryKeeps w → HistoryKeeps (world_after_submit o w i c)
  issued-keeps w (Some fault) i c k h = h
  issued-keeps w None i c k h = each-append ItemKeeps w.history (IssuedItem c ∷ []) h (k, tt)

  issue-keeps : (w : World A) (b : Bool) (i : ℕ) (c : Call A) → KeepsLimits c → HistoryKeeps w → HistoryKeeps (world_after_submit_if_member b w i c)
  issue-keeps w false i c k h = h
  issue-keeps w true i c k h = issued-keeps w (submit_fault (w.nodes i)) i c k h

  stop-keeps : (w : World A) (b : Bool) (i : ℕ) → HistoryKeeps w → HistoryKeeps (world_after_stop_if_member b w i)
  stop-keeps w false i h = h
  stop-keeps w true i h = h

  frame-keeps : (w : World A) (b : Bool) (f : Transmission A) (i : ℕ) → HistoryKeeps w → HistoryKeeps (world_after_receipt_if_sent object b w i f.frame)
  frame-keeps w false f i h = h
  frame-keeps w true f i h = stepped-keeps w (is_node w i) i (FrameInput f.frame) h

  world_after_delivery-keeps : (w : World A) (o : Option (Transmission A)) (i : ℕ) → HistoryKeeps w → HistoryKeeps (world_after_delivery object w i o)
  world_after_delivery-keeps w None i h = h
  world_after_delivery-keeps w (Some f) i h = frame-keeps w (has f.to i) f i h

  event-keeps : (w : World A) (e : Event A) → IsEventCallWithinLimits e → HistoryKeeps w → HistoryKeeps (world_after_event object w e)
  event-keeps w (Issue i c) k h = issue-keeps w (is_node w i) i c k h
  event-keeps w (Deliver i n) k h = world_after_delivery-keeps w (frame_at w.frames n) i h
  event-keeps w (Noise i bytes) k h = h
  event-keeps w (Timeout i kind) k h = stepped-keeps w (is_node w i) i (TimeInput kind) h
  event-keeps w (Stop i) k h = stop-keeps w (is_node w i) i h

  pub run-keeps : (w : World A) (events : List (Event A)) → Each IsEventCallWithinLimits events → HistoryKeeps w → HistoryKeeps (run object w events)
  run-keeps w [] k h = h
  run-keeps w (e ∷ events) k h = run-keeps (world_after_event object w e) events k.1 (event-keeps w e k.0 h)

-- an issued call is one of those issued by the events
pub issued-limits : {A : Type 0} (w : World A) → HistoryKeeps w → (c : Call A) → IssuedIn w.history c → KeepsLimits c
issued-limits w h c i = each-get ItemKeeps w.history i.0 (IssuedItem c) h i.1
