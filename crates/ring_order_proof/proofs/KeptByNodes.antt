-- A property that each node has at the opening, and keeps in each step, submit and stop, holds of each node in every run. In a
-- step and a submit its life is extended.
use Rattle.std.proofs.Common.{◌≡◌, ℕ, Bool, true, false, ◌==◌, List, [], ◌∷◌, Option, Some, None, refl, subst}
use Rattle.std.proofs.lemmas.Bool.{cond_both, eqb-true}
use Rattle.ring_base.specs.Group.{Group}
use Rattle.ring_base.specs.Processors.{has}
use Rattle.ring_base.specs.declared.fault.Fault.{Fault}
use Rattle.ring_object.specs.Operations.{Sequential}
use Rattle.ring_payload.specs.declared.call.Call.{Call}
use Rattle.ring_wire.specs.declared.frame.Frame.{Frame}
use Rattle.ring_core_spec.specs.State.{Transmission, frame_at}
use Rattle.ring_node_spec.specs.declared.input.Input.{Input as NodeInput}
use Rattle.ring_node_spec.specs.declared.input.Input.TheVariants.{Frame as NodeFrame, Timeout as NodeTime}
use Rattle.ring_node_spec.specs.Nodes.{Node, node_opening, node_stopped}
use Rattle.ring_node_spec.specs.Stepping.{node_step, submit_fault, node_after_submit}
use Rattle.ring_node_spec.specs.declared.event.Event.{Event}
use Rattle.ring_node_spec.specs.declared.event.Event.TheVariants.{Issue, Deliver, Noise, Timeout, Stop}
use Rattle.ring_node_spec.specs.Worlds.{World, with_node, world_opening, is_node, world_after_submit, world_after_submit_if_member, world_after_stop_if_member}
use Rattle.ring_node_spec.specs.Worlds.{world_after_input_if_member, world_after_receipt_if_sent, world_after_delivery, world_after_event, run}
use Rattle.ring_log_proof.specs.EpochEvents.{IsEpochsExtended}
use Rattle.ring_order_proof.proofs.DisciplinedNodes.{IsOrderlyNode}
use Rattle.ring_order_proof.proofs.DisciplinedWorlds.{AllKept, run_on, opened_on}

abbrev AllOn : {A : Type 0} → World A → World A → Type 0
AllOn w after = (i : ℕ) → IsEpochsExtended (w.nodes i).epochs (after.nodes i).epochs

-- each node keeps it, as its life is extended
pub record IsKept {O A : Type 0} (object : Sequential O) (Has : Node A → Type 0) : Type 0 where
  pub opens : (group : Group) (me : ℕ) → Has (node_opening group me)
  pub steps : (n : Node A) (input : NodeInput A) → IsEpochsExtended n.epochs (node_step object n input).node.epochs → Has n → Has (node_step object n input).node
  pub submits : (n : Node A) (c : Call A) → submit_fault n ≡ None → Has n → Has (node_after_submit n c)
  pub stops : (n : Node A) → Has n → Has (node_stopped n)

-- so if a node that steps is consistent
pub record IsKeptOrderly {O A : Type 0} (object : Sequential O) (Has : Node A → Type 0) : Type 0 where
  pub opens : (group : Group) (me : ℕ) → Has (node_opening group me)
  pub steps : (n : Node A) (input : NodeInput A) → IsOrderlyNode n → IsEpochsExtended n.epochs (node_step object n input).node.epochs → Has n
      → Has (node_step object n input).node
  pub submits : (n : Node A) (c : Call A) → submit_fault n ≡ None → Has n → Has (node_after_submit n c)
  pub stops : (n : Node A) → Has n → Has (node_stopped n)

module _ {O A : Type 0} (object : Sequential O) (Has : Node A → Type 0) (kept : IsKeptOrderly object Has) where
  abbrev AllHave : World A → Type 0
  AllHave w = (i : ℕ) → Has (w.nodes i)

  put_has : (nodes : ℕ → Node A) (i : ℕ) (n : Node A) → (IsEpochsExtended (nodes i).epochs n.epochs → Has n) → ((j : ℕ) → IsEpochsExtended (nodes j).epochs (with_node nodes i n j).epochs)
      → ((j : ℕ) → Has (nodes j)) → (j : ℕ) → Has (with_node nodes i n j)
  put_has nodes i n h on f j =
      cond_both (j == i) n (nodes j) (λ (m : Node A). IsEpochsExtended (nodes j).epochs m.epochs → Has m)
      (λ e k. h (subst (λ q. IsEpochsExtended (nodes q).epochs n.epochs) (eqb-true j i e) k)) (λ e k. f j) (on j)

  module _ (group : Group) (w : World A) (all : AllKept group w) (f : AllHave w) where
    steps_have : (i : ℕ) (input : NodeInput A) (b : Bool) → AllOn w (world_after_input_if_member object b w i input) → AllHave (world_after_input_if_member object b w i input)
    steps_have i input false on = f
    steps_have i input true on = put_has w.nodes i (node_step object (w.nodes i) input).node (λ k. kept.steps (w.nodes i) input (all i).orderly k (f i)) on f

    issues_or : (i : ℕ) (c : Call A) (fault : Option Fault) → submit_fault (w.nodes i) ≡ fault → AllOn w (world_after_submit fault w i c)
        → AllHave (world_after_submit fault w i c)
    issues_or i c (Some fault) e on = f
    issues_or i c None e on = put_has w.nodes i (node_after_submit (w.nodes i) c) (λ k. kept.submits (w.nodes i) c e (f i)) on f

    issues_if : (i : ℕ) (c : Call A) (b : Bool) → AllOn w (world_after_submit_if_member b w i c) → AllHave (world_after_submit_if_member b w i c)
    issues_if i c false on = f
    issues_if i c true on = issues_or i c (submit_fault (w.nodes i)) refl on

    stops_if : (i : ℕ) (b : Bool) → AllOn w (world_after_stop_if_member b w i) → AllHave (world_after_stop_if_member b w i)
    stops_if i false on = f
    stops_if i true on = put_has w.nodes i (node_stopped (w.nodes i)) (λ k. kept.stops (w.nodes i) (f i)) on f

    hands_if : (i : ℕ) (frame : Frame A) (b : Bool) → AllOn w (world_after_receipt_if_sent object b w i frame) → AllHave (world_after_receipt_if_sent object b w i frame)
    hands_if i frame false on = f
    hands_if i frame true on = steps_have i (NodeFrame frame) (is_node w i) on

    hands_have : (i : ℕ) (o : Option (Transmission A)) → AllOn w (world_after_delivery object w i o) → AllHave (world_after_delivery object w i o)
    hands_have i None on = f
    hands_have i (Some g) on = hands_if i g.frame (has g.to i) on

    event_has : (e : Event A) → AllOn w (world_after_event object w e) → AllHave (world_after_event object w e)
    event_has (Issue i c) on = issues_if i c (is_node w i) on
    event_has (Deliver i n) on = hands_have i (frame_at w.frames n) on
    event_has (Noise i bytes) on = f
    event_has (Timeout i kind) on = steps_have i (NodeTime kind) (is_node w i) on
    event_has (Stop i) on = stops_if i (is_node w i) on

  run_has : (group : Group) (w : World A) → AllKept group w → AllHave w → (events : List (Event A)) → AllHave (run object w events)
  run_has group w k f [] = f
  run_has group w k f (e ∷ events) =
      let g = run_on object group w k (e ∷ []) in
      run_has group (world_after_event object w e) (λ i. (g.nodes i).kept) (event_has group w k f e (λ i. (g.nodes i).on)) events

  pub all_have_orderly : (group : Group) (events : List (Event A)) (i : ℕ) → Has ((run object (world_opening group) events).nodes i)
  all_have_orderly group events =
      run_has group (world_opening group) (λ i. ((opened_on object group []).nodes i).kept) (λ i. kept.opens group i) events

pub all_have : {O A : Type 0} (object : Sequential O) (Has : Node A → Type 0) → IsKept object Has → (group : Group) (events : List (Event A)) (i : ℕ)
    → Has ((run object (world_opening group) events).nodes i)
all_have object Has kept =
    all_have_orderly object Has (record { opens = kept.opens; steps = λ n input o. kept.steps n input; submits = kept.submits; stops = kept.stops })
