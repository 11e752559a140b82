-- Every frame ever sent keeps the limits, and every node does, after all events whose calls keep them.
use Rattle.std.proofs.Common.{◌≡◌, ℕ, zero, suc, ◌≤◌, Bool, true, false, ◌==◌, List, [], ◌∷◌, Option, Some, None, refl, subst}
use Rattle.std.specs.Prelude.{nat_le}
use Rattle.std.specs.List.{AllByRecursion as Each}
use Rattle.std.proofs.lemmas.Bool.{cond_both, and_parts, leb-true}
use Rattle.ring_base.specs.Group.{Group}
use Rattle.ring_base.specs.Processors.{has}
use Rattle.ring_base.specs.declared.fault.Fault.{Fault}
use Rattle.ring_base.proofs.Each.{each-append, each-get, each-map}
use Rattle.ring_object.specs.Operations.{Sequential}
use Rattle.ring_payload.specs.Calls.{CallFits}
use Rattle.ring_payload.specs.declared.call.Call.{Call}
use Rattle.ring_wire.specs.Frames.{FrameFits}
use Rattle.ring_wire.specs.declared.frame.Frame.{Frame}
use Rattle.ring_core_spec.specs.State.{OutgoingFrame, Transmission, frame_at}
use Rattle.ring_node_spec.specs.declared.input.Input.{Input as NodeInput}
use Rattle.ring_node_spec.specs.declared.input.Input.TheVariants.{Frame as NodeFrame, Timeout as NodeTime}
use Rattle.ring_node_spec.specs.NodeLimits.{InputFits as NodeInputFits}
use Rattle.ring_node_spec.specs.Nodes.{Node, node_stopped}
use Rattle.ring_node_spec.specs.Stepping.{node_step, submit_fault, node_after_submit}
use Rattle.ring_node_spec.specs.declared.event.Event.{Event}
use Rattle.ring_node_spec.specs.declared.event.Event.TheVariants.{Issue, Deliver, Noise, Timeout, Stop}
use Rattle.ring_node_spec.specs.WorldLimits.{EventFits}
use Rattle.ring_node_spec.specs.Worlds.{World, with_node, world_opening, carried_frames, is_node, world_after_submit, world_after_submit_if_member, world_after_stop_if_member}
use Rattle.ring_node_spec.specs.Worlds.{world_after_input_if_member, world_after_receipt_if_sent, world_after_delivery, world_after_event, run}
use Rattle.ring_order_proof.specs.NodeFits.{NodeFits}
use Rattle.ring_order_proof.proofs.NodeLimits.{node_opens, node_halts, stepped_fits, submitted_fits}

-- the frame that was sent
abbrev pub CarriedFits : {A : Type 0} → Transmission A → Type 0
CarriedFits f = FrameFits f.frame

-- each node of the group, and each frame ever sent
pub record WorldFits {A : Type 0} (group : Group) (w : World A) : Type 0 where
  pub group_is : w.group ≡ group
  pub nodes : (i : ℕ) → 1 ≤ i → i ≤ group.count → NodeFits (w.nodes i)
  pub frames : Each CarriedFits w.frames

-- the same of each frame by its number
pub sent_fits : {A : Type 0} → (group : Group) (w : World A) (number : ℕ) (f : Transmission A) → WorldFits group w →
    frame_at w.frames number ≡ Some f → FrameFits f.frame
sent_fits group w zero f fits e = absurd (let x : ⊥ = cc in x)
sent_fits group w (suc k) f fits e = each-get CarriedFits w.frames k f fits.frames e

module _ {O A : Type 0} (object : Sequential O) (group : Group) (w : World A) (f : WorldFits group w) where
  put_fits : (i : ℕ) (n : Node A) → NodeFits n → (j : ℕ) → 1 ≤ j → j ≤ group.count → NodeFits (with_node w.nodes i n j)
  put_fits i n h j low high = cond_both (j == i) n (w.nodes j) NodeFits (λ e. h) (λ e. f.nodes j low high)

  node_here : (i : ℕ) → is_node w i ≡ true → NodeFits (w.nodes i)
  node_here i e =
      let p = and_parts (nat_le 1 i) (nat_le i w.group.count) e in
      f.nodes i (leb-true _ _ p.0) (subst (λ (g : Group). i ≤ g.count) f.group_is (leb-true _ _ p.1))

  steps : (i : ℕ) (input : NodeInput A) (b : Bool) → is_node w i ≡ b → NodeInputFits input → WorldFits group (world_after_input_if_member object b w i input)
  steps i input false e h = f
  steps i input true e h =
      let s = stepped_fits object (w.nodes i) (node_here i e) input h in
      let sends = (node_step object (w.nodes i) input).sends in
      record {
        group_is = f.group_is;
        nodes = put_fits i (node_step object (w.nodes i) input).node s.node;
        frames = each-append CarriedFits w.frames (carried_frames i sends) f.frames
            (each-map CarriedFits (λ (s : OutgoingFrame A). record { from = i; to = s.to; frame = s.frame }) sends s.sends);
      }

  issues_or : (i : ℕ) (c : Call A) (fault : Option Fault) → is_node w i ≡ true → CallFits c → WorldFits group (world_after_submit fault w i c)
  issues_or i c (Some fault) e h = record { group_is = f.group_is; nodes = f.nodes; frames = f.frames }
  issues_or i c None e h =
      record { group_is = f.group_is; nodes = put_fits i (node_after_submit (w.nodes i) c) (submitted_fits (w.nodes i) c (node_here i e) h); frames = f.frames }

  issues : (i : ℕ) (c : Call A) (b : Bool) → is_node w i ≡ b → CallFits c → WorldFits group (world_after_submit_if_member b w i c)
  issues i c false e h = f
  issues i c true e h = issues_or i c (submit_fault (w.nodes i)) e h

  stops : (i : ℕ) (b : Bool) → is_node w i ≡ b → WorldFits group (world_after_stop_if_member b w i)
  stops i false e = f
  stops i true e = record { group_is = f.group_is; nodes = put_fits i (node_stopped (w.nodes i)) (node_halts (w.nodes i) (node_here i e)); frames = f.frames }

  frame_comes : (i : ℕ) (frame : Frame A) (b : Bool) → FrameFits frame → WorldFits group (world_after_receipt_if_sent object b w i frame)
  frame_comes i frame false h = f
  frame_comes i frame true h = steps i (NodeFrame frame) (is_node w i) refl h

  epochs_with_sends : (i k : ℕ) (o : Option (Transmission A)) → frame_at w.frames k ≡ o → WorldFits group (world_after_delivery object w i o)
  epochs_with_sends i k None e = f
  epochs_with_sends i k (Some g) e = frame_comes i g.frame (has g.to i) (sent_fits group w k g f e)

  event_fits : (e : Event A) → EventFits e → WorldFits group (world_after_event object w e)
  event_fits (Issue i c) h = issues i c (is_node w i) refl h
  event_fits (Deliver i k) h = epochs_with_sends i k (frame_at w.frames k) refl
  event_fits (Noise i bytes) h = f
  event_fits (Timeout i kind) h = steps i (NodeTime kind) (is_node w i) refl tt
  event_fits (Stop i) h = stops i (is_node w i) refl

run_fits : {O A : Type 0} → (object : Sequential O) (group : Group) (w : World A) (events : List (Event A)) → Each EventFits events → WorldFits group w →
    WorldFits group (run object w events)
run_fits object group w [] h f = f
run_fits object group w (e ∷ events) h f = run_fits object group (world_after_event object w e) events h.1 (event_fits object group w f e h.0)

pub world_fits : {O A : Type 0} → (object : Sequential O) (group : Group) (events : List (Event A)) → group.count ≤ 16 → Each EventFits events →
    WorldFits group (run object (world_opening group) events)
world_fits object group events most h =
    run_fits object group (world_opening group) events h
    (record { group_is = refl; nodes = λ i low high. node_opens group i low high most; frames = tt })
