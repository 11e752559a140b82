-- Each event of a world of nodes, and so every list of them, keeps the discipline of each node, and extends its life.
use Rattle.std.proofs.Common.{◌≡◌, ℕ, ◌<◌, ◌≤◌, Bool, true, false, ◌==◌, inl, inr, List, [], ◌∷◌, Option, Some, None, refl, ap, sym, ◌∙◌, subst, arith}
use Rattle.std.specs.Prelude.{nat_le, ◌&&◌, if◌then◌else◌}
use Rattle.std.proofs.lemmas.Bool.{cond_both, eqb-true}
use Rattle.ring_base.specs.Group.{Group}
use Rattle.ring_base.specs.Processors.{only, has}
use Rattle.ring_base.specs.declared.fault.Fault.{Fault}
use Rattle.ring_object.specs.Operations.{Sequential}
use Rattle.ring_payload.specs.declared.call.Call.{Call as OneCall}
use Rattle.ring_wire.specs.declared.frame.Frame.{Frame}
use Rattle.ring_core_spec.specs.State.{Transmission, frame_at}
use Rattle.ring_log.specs.Epochs.{Epoch, epoch_opening, number_above_rings}
use Rattle.ring_log.specs.KnownLog.{known_log_of}
use Rattle.ring_log.specs.EpochHistories.{whole_epochs}
use Rattle.ring_core_proof.specs.LawConditions.{IsFalling}
use Rattle.ring_node_spec.specs.declared.input.Input.{Input as NodeInput}
use Rattle.ring_node_spec.specs.declared.input.Input.TheVariants.{Frame as NodeFrame, Timeout as NodeTime}
use Rattle.ring_node_spec.specs.Nodes.{Node, node_opening}
use Rattle.ring_node_spec.specs.Stepping.{submit_fault}
use Rattle.ring_node_spec.specs.declared.event.Event.{Event}
use Rattle.ring_node_spec.specs.declared.event.Event.TheVariants.{Issue, Deliver, Noise, Timeout, Stop}
use Rattle.ring_node_spec.specs.Worlds.{World, with_node, world_opening, is_node, world_after_submit, world_after_submit_if_member, world_after_stop_if_member}
use Rattle.ring_node_spec.specs.Worlds.{world_after_input_if_member, world_after_receipt_if_sent, world_after_delivery, world_after_event, run, epochs_in, whole_epochs_in}
use Rattle.ring_log_proof.specs.RingFacts.{HasEpoch, Rises}
use Rattle.ring_log_proof.specs.Discipline.{KeepsDiscipline, DropsOnlyCommitted, DropsCommitted, KeepsRules}
use Rattle.ring_log_proof.specs.EpochEvents.{AllMayHappen, IsEpochsExtended}
use Rattle.ring_log_proof.proofs.RunEpochs.{on-self, on-trans, events-on, events-orderly}
use Rattle.ring_synchrony_proof.proofs.Ordered.{opening_ordered}
use Rattle.ring_log_proof.proofs.FilledEpochs.{rules-whole}
use Rattle.ring_log_proof.proofs.Epochs.{seq-same, top-above}
use Rattle.ring_order_proof.proofs.DisciplinedNodes.{IsOrderlyNode, Becomes, node_becomes, node_stops, node_submits, rises}
use Rattle.ring_order_proof.proofs.DisciplinedSteps.{rings_of}
use Rattle.ring_log_proof.proofs.RunEpochs.{IsOrderly}

-- A node of a group whose life is consistent
pub record IsNodeKept {A : Type 0} (group : Group) (n : Node A) : Type 0 where
  pub group_is : n.group ≡ group
  pub orderly : IsOrderlyNode n
  pub keeps : IsOrderly group n.epochs

-- the node after an event
pub record GoesOn {A : Type 0} (group : Group) (n new : Node A) : Type 0 where
  pub kept : IsNodeKept group new
  pub on : IsEpochsExtended n.epochs new.epochs

goes_on : {A : Type 0} → (group : Group) (n new : Node A) → IsNodeKept group n → Becomes n new → GoesOn group n new
goes_on {A} group n new k b =
    let may : AllMayHappen group n.epochs b.events = subst (λ g. AllMayHappen g n.epochs b.events) k.group_is b.may in
    record {
      kept = record {
        group_is = b.group ∙ k.group_is;
        orderly = b.orderly;
        keeps = subst (λ (l : List (Epoch A)). IsOrderly group l) (sym b.node_epochs) (events-orderly group n.epochs b.events may k.keeps);
      };
      on = subst (λ (l : List (Epoch A)). IsEpochsExtended n.epochs l) (sym b.node_epochs) (events-on group n.epochs b.events may);
    }

same_goes_on : {A : Type 0} → (group : Group) (n : Node A) → IsNodeKept group n → GoesOn group n n
same_goes_on group n k = record { kept = k; on = on-self n.epochs }

-- All nodes of a world

pub record AllGoOn {A : Type 0} (group : Group) (w after : World A) : Type 0 where
  pub group_is : after.group ≡ w.group
  pub nodes : (i : ℕ) → GoesOn group (w.nodes i) (after.nodes i)

abbrev pub AllKept : {A : Type 0} → Group → World A → Type 0
AllKept group w = (i : ℕ) → IsNodeKept group (w.nodes i)

all_same : {A : Type 0} → (group : Group) (w : World A) → AllKept group w → AllGoOn group w w
all_same group w k = record { group_is = refl; nodes = λ i. same_goes_on group (w.nodes i) (k i) }

one_put : {A : Type 0} → (group : Group) (nodes : ℕ → Node A) (i : ℕ) (n : Node A) → ((j : ℕ) → IsNodeKept group (nodes j)) → GoesOn group (nodes i) n
    → (j : ℕ) →
    GoesOn group (nodes j) (with_node nodes i n j)
one_put {A} group nodes i n k g j =
    cond_both (j == i) n (nodes j) (λ (m : Node A). GoesOn group (nodes j) m)
    (λ e. subst (λ q. GoesOn group (nodes q) n) (sym (eqb-true j i e)) g) (λ e. same_goes_on group (nodes j) (k j))

module _ {O A : Type 0} (object : Sequential O) (group : Group) (w : World A) (k : AllKept group w) where
  steps_on : (i : ℕ) (input : NodeInput A) (b : Bool) → AllGoOn group w (world_after_input_if_member object b w i input)
  steps_on i input false = all_same group w k
  steps_on i input true =
      record { group_is = refl; nodes = one_put group w.nodes i _ k (goes_on group (w.nodes i) _ (k i) (node_becomes object (w.nodes i) input (k i).orderly)) }

  issues_or : (i : ℕ) (c : OneCall A) (fault : Option Fault) → AllGoOn group w (world_after_submit fault w i c)
  issues_or i c (Some fault) = record { group_is = refl; nodes = λ j. same_goes_on group (w.nodes j) (k j) }
  issues_or i c None =
      record { group_is = refl; nodes = one_put group w.nodes i _ k (goes_on group (w.nodes i) _ (k i) (node_submits (w.nodes i) c (k i).orderly)) }

  issues_if : (i : ℕ) (c : OneCall A) (b : Bool) → AllGoOn group w (world_after_submit_if_member b w i c)
  issues_if i c false = all_same group w k
  issues_if i c true = issues_or i c (submit_fault (w.nodes i))

  stops_if : (i : ℕ) (b : Bool) → AllGoOn group w (world_after_stop_if_member b w i)
  stops_if i false = all_same group w k
  stops_if i true =
      record { group_is = refl; nodes = one_put group w.nodes i _ k (goes_on group (w.nodes i) _ (k i) (node_stops (w.nodes i) (k i).orderly)) }

  hands_if : (i : ℕ) (frame : Frame A) (b : Bool) → AllGoOn group w (world_after_receipt_if_sent object b w i frame)
  hands_if i frame false = all_same group w k
  hands_if i frame true = steps_on i (NodeFrame frame) (is_node w i)

  hands_on : (i : ℕ) (f : Option (Transmission A)) → AllGoOn group w (world_after_delivery object w i f)
  hands_on i None = all_same group w k
  hands_on i (Some f) = hands_if i f.frame (has f.to i)

  event_on : (e : Event A) → AllGoOn group w (world_after_event object w e)
  event_on (Issue i c) = issues_if i c (is_node w i)
  event_on (Deliver i n) = hands_on i (frame_at w.frames n)
  event_on (Noise i bytes) = all_same group w k
  event_on (Timeout i kind) = steps_on i (NodeTime kind) (is_node w i)
  event_on (Stop i) = stops_if i (is_node w i)

then_on : {A : Type 0} → (group : Group) (a b c : World A) → AllGoOn group a b → AllGoOn group b c → AllGoOn group a c
then_on group a b c f g =
    record {
      group_is = g.group_is ∙ f.group_is;
      nodes = λ i. record { kept = (g.nodes i).kept; on = on-trans (a.nodes i).epochs (b.nodes i).epochs (c.nodes i).epochs (f.nodes i).on (g.nodes i).on };
    }

pub run_on : {O A : Type 0} → (object : Sequential O) (group : Group) (w : World A) → AllKept group w
    → (events : List (Event A)) → AllGoOn group w (run object w events)
run_on object group w k [] = all_same group w k
run_on object group w k (e ∷ events) =
    let one = event_on object group w k e in
    then_on group w (world_after_event object w e) (run object (world_after_event object w e) events) one
    (run_on object group (world_after_event object w e) (λ i. (one.nodes i).kept) events)

-- At the opening

opening_kept : {A : Type 0} → (group : Group) (me : ℕ) → IsNodeKept group (node_opening {A = A} group me)
opening_kept {A} group me =
    record {
      group_is = refl;
      orderly = record {
        epoch = epoch_opening (record { seq = 0; rep = me }) (only me);
        older = [];
        epochs = refl;
        stands = record { ring = refl; members = refl; marked = omega arith; exchange_opening = λ e. absurd (let x : ⊥ = cc in x) };
        rings = refl;
        ordered = opening_ordered A group.count me;
        ready = refl;
        drops = λ s older i. elim (i) [
          | inl e ↦ subst (λ (t : Epoch A). t.trimmed ≤ (known_log_of group (t ∷ older)).committed) e.0 (omega arith)
          | inr n ↦ absurd n
        ];
      };
      keeps = λ s older i. elim (i) [ inl e ↦ inl (ap (λ (t : Epoch A). t.sent) (sym e.0)) | inr n ↦ absurd n ];
    }

pub opened_on : {O A : Type 0} → (object : Sequential O) (group : Group) (events : List (Event A))
    → AllGoOn group (world_opening group) (run object (world_opening group) events)
opened_on object group events = run_on object group (world_opening group) (opening_kept group) events

-- The lives of the group's processors, as they know them

pub in_lives : {A : Type 0} → (w : World A) (P : List (Epoch A) → Type 0) (p : ℕ) → P (w.nodes p).epochs → P [] → P (epochs_in w p)
in_lives w P p h none = cond_both (is_node w p) (w.nodes p).epochs [] P (λ e. h) (λ e. none)

pub own_keep : {O A : Type 0} → (object : Sequential O) (group : Group) (events : List (Event A))
    → KeepsDiscipline group (epochs_in (run object (world_opening group) events))
own_keep {O} {A} object group events p =
    let w = run object (world_opening group) events in
    in_lives w (λ (l : List (Epoch A)). IsOrderly group l) p ((opened_on object group events).nodes p).kept.keeps (λ s older i. absurd i)

pub own_drop : {O A : Type 0} → (object : Sequential O) (group : Group) (events : List (Event A))
    → DropsCommitted group (epochs_in (run object (world_opening group) events))
own_drop {O} {A} object group events p =
    let w = run object (world_opening group) events in
    let k = ((opened_on object group events).nodes p).kept in
    in_lives w (λ (l : List (Epoch A)). DropsOnlyCommitted group l) p (subst (λ g. DropsOnlyCommitted g (w.nodes p).epochs) k.group_is k.orderly.drops) (λ s older i. absurd i)

-- the numbers of their rings rise
pub kept_rise : {A : Type 0} → (group : Group) (w : World A) → AllKept group w → (p : ℕ) → Rises (epochs_in w p)
kept_rise {A} group w k p =
    let o = (k p).orderly in
    in_lives w (λ (l : List (Epoch A)). Rises l) p (rises (w.nodes p).epochs (w.nodes p).core.installs (ap rings_of o.epochs ∙ o.rings)
    (subst IsFalling (sym o.ordered.newest) o.ordered.falls)) tt

pub own_on : {O A : Type 0} → (object : Sequential O) (group : Group) (before later : List (Event A)) (i : ℕ) →
    IsEpochsExtended (epochs_in (run object (world_opening group) before) i) (epochs_in (run object (run object (world_opening group) before) later) i)
own_on {O} {A} object group before later i =
    let w = run object (world_opening group) before in
    let first = opened_on object group before in
    let more = run_on object group w (λ j. (first.nodes j).kept) later in
    let after = run object w later in
    let same : is_node after i ≡ is_node w i = ap (λ (g : Group). nat_le 1 i && nat_le i g.count) more.group_is in
    subst (λ b. IsEpochsExtended (epochs_in w i) (if b then (after.nodes i).epochs else [])) (sym same)
    (cond_on (is_node w i) (w.nodes i).epochs (after.nodes i).epochs (more.nodes i).on)
  where
    cond_on : (b : Bool) (x y : List (Epoch A)) → IsEpochsExtended x y → IsEpochsExtended (if b then x else []) (if b then y else [])
    cond_on true x y h = h
    cond_on false x y h = tt

-- the rings below a life's bound
pub below_above : {A : Type 0} → (epochs : List (Epoch A)) → Rises epochs → (s : Epoch A) (older : List (Epoch A)) → HasEpoch epochs s older → s.ring.seq < number_above_rings epochs
below_above [] r s older i = absurd i
below_above (t ∷ before) r s older (inl e) = omega (arith, seq-same e.0)
below_above (t ∷ before) r s older (inr i) = omega (arith, top-above t before s older r i)

-- With the places that snapshots stand for

abbrev pub tops : {A : Type 0} → World A → ℕ → ℕ
tops w p = number_above_rings (epochs_in w p)

pub run_group : {O A : Type 0} → (object : Sequential O) (group : Group) (events : List (Event A)) → (run object (world_opening group) events).group ≡ group
run_group object group events = (opened_on object group events).group_is

pub lives_keep : {O A : Type 0} → (object : Sequential O) (group : Group) (events : List (Event A))
    → KeepsRules group (whole_epochs_in (run object (world_opening group) events))
lives_keep {O} {A} object group events =
    let w = run object (world_opening group) events in
    let same = run_group object group events in
    let rises : (p : ℕ) → Rises (epochs_in w p) = kept_rise group w (λ p. ((opened_on object group events).nodes p).kept) in
    subst (λ g. KeepsRules group (λ p. whole_epochs g (epochs_in w) (tops w p) p)) (sym same)
    (rules-whole group (epochs_in w) (tops w) (λ p. below_above (epochs_in w p) (rises p)) rises (own_keep object group events) (own_drop object group events))
