-- Each event of a world of nodes, and so each list of them, is events of a world of ring cores.
use Rattle.std.proofs.Common.{◌≡◌, ℕ, Bool, true, false, List, [], ◌∷◌, ◌++◌, Option, Some, None, refl, ap, sym, ◌∙◌, subst, append_assoc, append-nil}
use Rattle.ring_base.specs.Prefixes.{IsListPrefix}
use Rattle.ring_base.specs.Group.{Group}
use Rattle.ring_base.specs.Processors.{has}
use Rattle.ring_base.specs.declared.fault.Fault.{Fault}
use Rattle.ring_base.proofs.TwoEqual.{ap-both}
use Rattle.ring_object.specs.Operations.{Sequential}
use Rattle.ring_payload.specs.declared.call.Call.{Call as OneCall}
use Rattle.ring_core_spec.specs.declared.input.Input.TheVariants.{Frame as FrameInput, Timeout as TimeInput}
use Rattle.ring_core_spec.specs.declared.out.Out.{Out}
use Rattle.ring_core_spec.specs.State.{Transmission, frame_at}
use Rattle.ring_node_spec.specs.declared.input.Input.TheVariants.{Frame as NodeFrame, Timeout as NodeTime}
use Rattle.ring_node_spec.specs.Stepping.{due_by_submit, submit_fault, node_after_submit}
use Rattle.ring_node_spec.specs.declared.event.Event.{Event}
use Rattle.ring_node_spec.specs.declared.event.Event.TheVariants.{Issue, Deliver, Noise, Timeout, Stop}
use Rattle.ring_node_spec.specs.Worlds.{World, world_opening, is_node as is_world_node, world_after_submit, world_after_submit_if_member}
use Rattle.ring_node_spec.specs.Worlds.{world_after_stop_if_member as node_stopped_if}
use Rattle.ring_node_spec.specs.Worlds.{world_after_input_if_member as node_stepped_if, world_after_receipt_if_sent as node_handed_if, world_after_delivery as node_handed}
use Rattle.ring_node_spec.specs.Worlds.{world_after_event as node_happens, run as node_run}
use Rattle.ring_core_proof.specs.declared.event.RingEvent.{RingEvent}
use Rattle.ring_core_proof.specs.declared.event.RingEvent.TheVariants.{Deliver as RingDeliver, Timeout as RingTimeout}
use Rattle.ring_core_proof.specs.Worlds.{with_core, stepped_if, handed_if, handed, run}
use Rattle.ring_core_proof.proofs.Lifting.{cores-append}
use Rattle.ring_order_proof.specs.Projection.{ring_part, IsRingRun, CoreEvents, core_events_if, core_events_of_delivery_if, core_events_of_delivery, core_events_of_submit, core_events_of_submit_if}
use Rattle.ring_order_proof.specs.Projection.{core_events_of_stop_if, core_events, core_events_joined, core_events_of_run, IsProjected}
use Rattle.ring_order_proof.proofs.ProjectedSends.{run_sends, handed_is}
use Rattle.ring_order_proof.proofs.ProjectedSteps.{cores_of, hands_unsent, IsOver, Leads, stays, Becomes, becomes_part, becomes_over, halts, steps}

module _ {O A : Type 0} (object : Sequential O) (w : World A) (outs : List (ℕ × Out A)) (over : IsOver w outs) where
  -- a submit: the due payload is handed over
  takes : (i : ℕ) (c : OneCall A) → is_world_node w i ≡ true → (fault : Option Fault) → Leads w outs (core_events_of_submit fault w i c) (world_after_submit fault w i c)
  takes i c m (Some fault) =
      let same = stays w outs over in
      record { part = same.part; over = record { node_epochs = (same.over).node_epochs; settled = (same.over).settled } }
  takes i c m None =
      let n = w.nodes i in
      let due = due_by_submit n c in
      let new = node_after_submit n c in
      let after : World A = world_after_submit None w i c in
      let b : Becomes w outs i new [] after = (refl, refl, sym (append-nil w.frames)) in
      record {
        part =
            run_sends (ring_part w outs) i due m (over.settled i)
            ∙ ap-both (λ frames more. record { total = w.group.count; cores = with_core (cores_of w.nodes) i new.core; frames = frames; outs = more })
            (sym (append-nil w.frames)) (sym (append-nil outs))
            ∙ becomes_part w outs i new [] after b;
        over = becomes_over w outs i new [] after b over (hands_unsent due n.epochs) (handed_is n.core due (over.settled i));
      }

  issues : (i : ℕ) (c : OneCall A) (t : Bool) → is_world_node w i ≡ t → Leads w outs (core_events_of_submit_if t w i c) (world_after_submit_if_member t w i c)
  issues i c false m = stays w outs over
  issues i c true m = takes i c m (submit_fault (w.nodes i))

  stops : (i : ℕ) (t : Bool) → is_world_node w i ≡ t → Leads w outs (core_events_of_stop_if t i) (node_stopped_if t w i)
  stops i false m = stays w outs over
  stops i true m = halts object w outs over i m (node_stopped_if true w i) (refl, refl, sym (append-nil w.frames))

  times : (i : ℕ) (kind : _) (t : Bool) → is_world_node w i ≡ t →
      Leads w outs (core_events_if object t w i (RingTimeout i kind) (TimeInput kind)) (node_stepped_if object t w i (NodeTime kind))
  times i kind false m = stays w outs over
  times i kind true m =
      steps object w outs over i m (TimeInput kind) (RingTimeout i kind) (NodeTime kind) (ap (λ t. stepped_if t (ring_part w outs) i (TimeInput kind)) m) refl

  -- a frame that was sent to the node
  comes : (i k : ℕ) (f : Transmission A) (t : Bool) → frame_at w.frames k ≡ Some f → has f.to i ≡ true → is_world_node w i ≡ t →
      Leads w outs (core_events_if object t w i (RingDeliver i k) (FrameInput f.frame)) (node_stepped_if object t w i (NodeFrame f.frame))
  comes i k f false e h m = stays w outs over
  comes i k f true e h m =
      steps object w outs over i m (FrameInput f.frame) (RingDeliver i k) (NodeFrame f.frame)
      (ap (handed (ring_part w outs) i) e
      ∙ ap (λ t. handed_if t (ring_part w outs) i f.frame) h
      ∙ ap (λ t. stepped_if t (ring_part w outs) i (FrameInput f.frame)) m)
      refl

  comes_if : (i k : ℕ) (f : Transmission A) (t : Bool) → frame_at w.frames k ≡ Some f → has f.to i ≡ t →
      Leads w outs (core_events_of_delivery_if object t w i k f.frame) (node_handed_if object t w i f.frame)
  comes_if i k f false e h = stays w outs over
  comes_if i k f true e h = comes i k f (is_world_node w i) e h refl

  comes_some : (i k : ℕ) (f : Option (Transmission A)) → frame_at w.frames k ≡ f → Leads w outs (core_events_of_delivery object w i k f) (node_handed object w i f)
  comes_some i k None e = stays w outs over
  comes_some i k (Some f) e = comes_if i k f (has f.to i) e refl

  pub event_leads : (e : Event A) → Leads w outs (core_events object w e) (node_happens object w e)
  event_leads (Issue i c) = issues i c (is_world_node w i) refl
  event_leads (Deliver i k) = comes_some i k (frame_at w.frames k) refl
  event_leads (Noise i bytes) = stays w outs over
  event_leads (Timeout i kind) = times i kind (is_world_node w i) refl
  event_leads (Stop i) = stops i (is_world_node w i) refl

-- one after another
leads_on : {A : Type 0} → (w : World A) (outs : List (ℕ × Out A)) (x : CoreEvents A) (between : World A) → Leads w outs x between →
    (y : CoreEvents A) (after : World A) → Leads between (outs ++ x.outs) y after → Leads w outs (core_events_joined x y) after
leads_on w outs x between a y after b =
    let same : (outs ++ x.outs) ++ y.outs ≡ outs ++ (x.outs ++ y.outs) = append_assoc outs x.outs y.outs in
    record {
      part =
          cores-append (ring_part w outs) x.events y.events
          ∙ ap (λ r. run r y.events) a.part
          ∙ b.part
          ∙ ap (ring_part after) same;
      over = subst (IsOver after) same b.over;
    }

events_lead : {O A : Type 0} → (object : Sequential O) (w : World A) (outs : List (ℕ × Out A)) → IsOver w outs → (events : List (Event A)) →
    Leads w outs (core_events_of_run object w events) (node_run object w events)
events_lead object w outs over [] = stays w outs over
events_lead object w outs over (e ∷ events) =
    let a = event_leads object w outs over e in
    leads_on w outs (core_events object w e) (node_happens object w e) a (core_events_of_run object (node_happens object w e) events) _
    (events_lead object (node_happens object w e) (outs ++ (core_events object w e).outs) a.over events)

pub ring_run : {O A : Type 0} → (object : Sequential O) (group : Group) (events : List (Event A))
    → IsRingRun group (node_run object (world_opening group) events)
ring_run {O} {A} object group events =
    let w : World A = world_opening group in
    let start : IsOver w [] = record { node_epochs = λ i. refl; settled = λ i. refl } in
    let l = events_lead object w [] start events in
    let s = core_events_of_run object w events in
    record { events = s.events; outs = s.outs; part = l.part; node_epochs = l.over.node_epochs }

-- so its events and outputs are exactly those
pub projected : {O A : Type 0} → (object : Sequential O) (group : Group) (events : List (Event A)) → IsProjected object group events
unfolding ring_run
projected object group events = record { ring = ring_run object group events; events_are = refl; outs_are = refl }

-- more events extend them
core_events-append : {O A : Type 0} → (object : Sequential O) (w : World A) (es fs : List (Event A)) →
    core_events_of_run object w (es ++ fs) ≡ core_events_joined (core_events_of_run object w es) (core_events_of_run object (node_run object w es) fs)
core_events-append object w [] fs = refl
core_events-append {O} {A} object w (e ∷ es) fs =
    let x = core_events object w e in
    let v = node_happens object w e in
    let y = core_events_of_run object v es in
    let z = core_events_of_run object (node_run object v es) fs in
    let make : List (RingEvent A) → List (ℕ × Out A) → CoreEvents A = λ events outs. record { events = events; outs = outs } in
    ap (core_events_joined x) (core_events-append object v es fs)
    ∙ ap-both make (sym (append_assoc x.events y.events z.events)) (sym (append_assoc x.outs y.outs z.outs))

module _ {O A : Type 0} (object : Sequential O) (group : Group) (es fs : List (Event A)) where
  abbrev later : CoreEvents A
  later = core_events_of_run object (node_run object (world_opening group) es) fs

  pub events_grow : IsListPrefix (core_events_of_run object (world_opening group) es).events (core_events_of_run object (world_opening group) (es ++ fs)).events
  events_grow = (later.events, sym (ap (λ (s : CoreEvents A). s.events) (core_events-append object (world_opening group) es fs)))

  pub outs_grow : IsListPrefix (core_events_of_run object (world_opening group) es).outs (core_events_of_run object (world_opening group) (es ++ fs)).outs
  outs_grow = (later.outs, sym (ap (λ (s : CoreEvents A). s.outs) (core_events-append object (world_opening group) es fs)))
