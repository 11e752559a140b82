-- In every run each ticket's call was issued, and so was each call handed over; each node has the world's group.
use Rattle.std.proofs.Common.{◌≡◌, ℕ, suc, zero, ◌==◌, ◌&&◌, Bool, true, false, List, [], ◌∷◌, ◌++◌, Option, Some, None, refl, subst, ◌∙◌, inl, inr}
use Rattle.std.proofs.lemmas.Bool.{cond_both}
use Rattle.ring_base.specs.Prefixes.{prefix_get, prefix_append}
use Rattle.ring_base.specs.Group.{Group}
use Rattle.ring_base.specs.Processors.{has}
use Rattle.ring_base.specs.declared.fault.Fault.{Fault}
use Rattle.ring_object.specs.Operations.{Sequential}
use Rattle.ring_payload.specs.declared.call.Call.{Call}
use Rattle.ring_core_spec.specs.State.{Transmission, StepResult, frame_at}
use Rattle.ring_core_spec.specs.Stepping.{ring_step}
use Rattle.ring_core_spec.specs.declared.input.Input.TheVariants.{Frame as CoreFrame, Timeout as CoreTimeout}
use Rattle.ring_core_spec.specs.declared.out.Out.{Out}
use Rattle.ring_log.specs.KnownLog.{KnownLog, known_log_of, retained_log, is_known_log_sound}
use Rattle.ring_log.specs.Logs.{committed_calls}
use Rattle.ring_log.specs.Epochs.{Epoch, history_opening_of}
use Rattle.ring_node_spec.specs.EpochHistories.{epochs_after}
use Rattle.ring_node_spec.specs.Nodes.{Node, node_known_log, node_stopped, is_closed, is_restored}
use Rattle.ring_node_spec.specs.DueSends.{due_of_outputs}
use Rattle.ring_node_spec.specs.declared.input.Input.{Input}
use Rattle.ring_node_spec.specs.declared.input.Input.TheVariants.{Frame as FrameInput, Noise as NoiseInput, Timeout as TimeInput, Stop as StopInput}
use Rattle.ring_node_spec.specs.Stepping.{NodeStepResult, node_after_outputs, with_dropped, newly_committed, drops, did, settled, after_core, node_step, submit_fault, node_after_submit}
use Rattle.ring_node_spec.specs.declared.event.Event.{Event}
use Rattle.ring_node_spec.specs.declared.event.Event.TheVariants.{Issue, Deliver, Noise, Timeout, Stop}
use Rattle.ring_node_spec.specs.declared.item.Item.{Item}
use Rattle.ring_node_spec.specs.declared.item.Item.TheVariants.{Issue as IssuedItem}
use Rattle.ring_node_spec.specs.declared.client_report.Told.{Told}
use Rattle.ring_node_spec.specs.Histories.{IsIssuedAt}
use Rattle.ring_node_spec.specs.Worlds.{World, world_opening, with_node, is_node, reply_items_of, after_step, world_after_submit, world_after_submit_if_member}
use Rattle.ring_node_spec.specs.Worlds.{world_after_stop_if_member, world_after_input_if_member, world_after_receipt_if_sent, world_after_delivery, world_after_event, run}
use Rattle.ring_log_proof.specs.RingFacts.{HasEpoch}
use Rattle.ring_log_proof.specs.EpochEvents.{IsKnownCall}
use Rattle.std.specs.List.{AllByRecursion as Each}
use Rattle.ring_order_proof.proofs.SentTickets.{NodeKnows, step-known, submitted-known, stopped-known, knows-more}

abbrev pub IssuedIn : {A : Type 0} → List (Item A) → Call A → Type 0
IssuedIn history c = (k : ℕ) × IsIssuedAt history c k

pub issued-more : {A : Type 0} (history items : List (Item A)) (c : Call A) → IssuedIn history c → IssuedIn (history ++ items) c
issued-more history items c i = (i.0, prefix_get history (history ++ items) i.0 (IssuedItem c) (prefix_append history items) i.1)

issued-last : {A : Type 0} (history : List (Item A)) (c : Call A) → IssuedIn (history ++ IssuedItem c ∷ []) c
issued-last [] c = (zero, refl)
issued-last (x ∷ history) c = let r = issued-last history c in (suc r.0, r.1)

pub record WorldKnows {A : Type 0} (group : Group) (w : World A) : Type 0 where
  pub here : w.group ≡ group
  pub groups : (i : ℕ) → (w.nodes i).group ≡ group
  pub knows : (i : ℕ) → NodeKnows (IssuedIn w.history) (w.nodes i)

module _ {O A : Type 0} (object : Sequential O) where
  settled-group : (b : Bool) (old new : Node A) (outs : List (Out A)) (k : KnownLog A) → new.group ≡ old.group
      → (settled object b old new outs k).node.group ≡ old.group
  settled-group false old new outs k e = refl
  settled-group true old new outs k e =
      let s = did object old new outs k (newly_committed (node_known_log old) k) in
      cond_both (drops object (is_closed old.group new.epochs) k) (record s { node = with_dropped k.committed s.node; dropped = committed_calls (retained_log k) }) s
      (λ (x : NodeStepResult A). x.node.group ≡ old.group) (λ t. e) (λ f. e)

  core-group : (n : Node A) (s : StepResult A) → (after_core object n s).node.group ≡ n.group
  core-group n s =
      let epochs = epochs_after n.epochs s.outs in
      settled-group (is_known_log_sound n.group epochs && is_restored object (known_log_of n.group epochs)) n
      (node_after_outputs n s.core epochs (due_of_outputs object n s.core n.epochs s.outs)) s.outs
      (known_log_of n.group epochs) refl

  step-group : (n : Node A) (input : Input A) → (node_step object n input).node.group ≡ n.group
  step-group n (FrameInput frame) = core-group n (ring_step n.core (CoreFrame frame))
  step-group n (TimeInput kind) = core-group n (ring_step n.core (CoreTimeout kind))
  step-group n NoiseInput = refl
  step-group n StopInput = refl

  -- one node changes, and the history may grow
  put-knows : (group : Group) (w : World A) (i : ℕ) (n : Node A) (frames : List (Transmission A)) (history : List (Item A)) (told : List (Told A))
      (longest : List (Call A))
      → WorldKnows group w
      → ((c : Call A) → IssuedIn w.history c → IssuedIn history c) → n.group ≡ group → NodeKnows (IssuedIn history) n
      → WorldKnows group (record { group = w.group; nodes = with_node w.nodes i n; frames = frames; history = history; told = told; longest = longest })
  put-knows group w i n frames history told longest k more e h = record {
    here = k.here;
    groups = λ j. cond_both (j == i) n (w.nodes j) (λ (m : Node A). m.group ≡ group) (λ t. e) (λ f. k.groups j);
    knows = λ j. cond_both (j == i) n (w.nodes j) (NodeKnows (IssuedIn history)) (λ t. h)
        (λ f. knows-more (IssuedIn w.history) (IssuedIn history) more (w.nodes j) (k.knows j));
  }

  stepped-knows : (group : Group) (w : World A) (b : Bool) (i : ℕ) (input : Input A) → WorldKnows group w → WorldKnows group (world_after_input_if_member object b w i input)
  stepped-knows group w false i input k = k
  stepped-knows group w true i input k =
      let s = node_step object (w.nodes i) input in
      let w' = after_step w i s in
      let known = step-known (IssuedIn w.history) object (w.nodes i) input (k.knows i) in
      put-knows group w i s.node w'.frames w'.history w'.told w'.longest k (issued-more w.history (reply_items_of s.answers))
      (step-group (w.nodes i) input ∙ k.groups i)
      (knows-more (IssuedIn w.history) (IssuedIn (w.history ++ reply_items_of s.answers)) (issued-more w.history (reply_items_of s.answers)) s.node known)

  issued-knows : (group : Group) (w : World A) (o : Option Fault) (i : ℕ) (c : Call A) → WorldKnows group w → WorldKnows group (world_after_submit o w i c)
  issued-knows group w (Some fault) i c k = record { here = k.here; groups = k.groups; knows = k.knows }
  issued-knows group w None i c k =
      let more = issued-more w.history (IssuedItem c ∷ []) in
      let now = w.history ++ IssuedItem c ∷ [] in
      put-knows group w i (node_after_submit (w.nodes i) c) w.frames now w.told w.longest k more (k.groups i)
      (submitted-known (IssuedIn now) (w.nodes i) c (issued-last w.history c) (knows-more (IssuedIn w.history) (IssuedIn now) more (w.nodes i) (k.knows i)))

  frame-knows : (group : Group) (w : World A) (o : Option (Transmission A)) (i : ℕ) → WorldKnows group w → WorldKnows group (world_after_delivery object w i o)
  frame-knows group w None i k = k
  frame-knows group w (Some f) i k = go (has f.to i)
    where
      go : (b : Bool) → WorldKnows group (world_after_receipt_if_sent object b w i f.frame)
      go false = k
      go true = stepped-knows group w (is_node w i) i (FrameInput f.frame) k

  pub event-knows : (group : Group) (w : World A) (e : Event A) → WorldKnows group w → WorldKnows group (world_after_event object w e)
  event-knows group w (Issue i c) k = go (is_node w i)
    where
      go : (b : Bool) → WorldKnows group (world_after_submit_if_member b w i c)
      go false = k
      go true = issued-knows group w (submit_fault (w.nodes i)) i c k
  event-knows group w (Deliver i n) k = frame-knows group w (frame_at w.frames n) i k
  event-knows group w (Noise i bytes) k = k
  event-knows group w (Timeout i kind) k = stepped-knows group w (is_node w i) i (TimeInput kind) k
  event-knows group w (Stop i) k = go (is_node w i)
    where
      go : (b : Bool) → WorldKnows group (world_after_stop_if_member b w i)
      go false = k
      go true = put-knows group w i (node_stopped (w.nodes i)) w.frames w.history w.told w.longest k (λ c h. h) (k.groups i)
          (stopped-known (IssuedIn w.history) (w.nodes i) (k.knows i))

  pub run-knows : (group : Group) (w : World A) (events : List (Event A)) → WorldKnows group w → WorldKnows group (run object w events)
  run-knows group w [] k = k
  run-knows group w (e ∷ events) k = run-knows group (world_after_event object w e) events (event-knows group w e k)

pub opening-knows : {A : Type 0} (group : Group) → WorldKnows {A = A} group (world_opening group)
opening-knows {A} group = record { here = refl; groups = λ i. refl; knows = λ i. record { tickets = tt; sent = λ s older h. silent i s older h } }
  where
    silent : (i : ℕ) (s : Epoch A) (older : List (Epoch A)) → HasEpoch (history_opening_of i) s older → Each (IsKnownCall (IssuedIn {A = A} [])) s.sent
    silent i s older (inl e) = subst (λ (t : Epoch A). Each (IsKnownCall (IssuedIn {A = A} [])) t.sent) e.0 tt
    silent i s older (inr e) = absurd e
