-- The facts and the discipline also hold between a step of a node's core and what the node then hands over. The cores are still
-- those of a run of ring cores there, and lives are extended up to there.
use Rattle.std.proofs.Common.{◌≡◌, ℕ, ◌≤◌, ◌==◌, Bool, true, false, cond, if◌then◌else◌, List, [], ◌∷◌, ◌++◌, refl, ap, sym, ◌∙◌, subst}
use Rattle.std.proofs.lemmas.Bool.{cond_both, eqb-true}
use Rattle.ring_base.specs.Group.{Group}
use Rattle.ring_object.specs.Operations.{Sequential}
use Rattle.ring_payload.specs.declared.content.Payload.{Payload}
use Rattle.ring_wire.specs.declared.frame.Frame.{Frame}
use Rattle.ring_core_spec.specs.declared.input.Input.{Input}
use Rattle.ring_core_spec.specs.declared.input.Input.TheVariants.{Frame as FrameInput, Timeout as TimeInput, Send as SendInput}
use Rattle.ring_core_spec.specs.declared.out.Out.{Out}
use Rattle.ring_core_spec.specs.Stepping.{ring_step}
use Rattle.ring_core_proof.specs.declared.event.RingEvent.{RingEvent}
use Rattle.ring_core_proof.specs.declared.event.RingEvent.TheVariants.{Deliver, Timeout}
use Rattle.ring_core_proof.specs.Worlds.{World as RingWorld, after_step, stepped_if, handed_if, handed}
use Rattle.ring_core_proof.specs.Worlds.{world_after_event, unformed}
use Rattle.ring_core_proof.proofs.KeptByMoves.{kept_step}
use Rattle.ring_core_proof.proofs.Lifting.{cores-append}
use Rattle.ring_synchrony_proof.proofs.Ordered.{Ordered, ordering}
use Rattle.ring_log.specs.EpochHistories.{whole_epochs}
use Rattle.ring_log.specs.Epochs.{Epoch}
use Rattle.ring_log_proof.specs.RingFacts.{Rises, AreAbove}
use Rattle.ring_log_proof.specs.Discipline.{KeepsDiscipline, DropsOnlyCommitted, DropsCommitted, KeepsRules}
use Rattle.ring_log_proof.specs.EpochEvents.{IsEpochsExtended, AllMayHappen}
use Rattle.ring_log_proof.proofs.RunEpochs.{IsOrderly, on-self, events-on, events-orderly, events-dropping}
use Rattle.ring_log_proof.proofs.FilledEpochs.{rules-whole, filled-on}
use Rattle.ring_node_spec.specs.Nodes.{Node}
use Rattle.ring_node_spec.specs.declared.event.Event.{Event}
use Rattle.ring_node_spec.specs.Worlds.{World, world_opening, with_node, is_node, run, epochs_in, whole_epochs_in}
use Rattle.ring_order_proof.specs.Projection.{ring_part, by, IsRingRun}
use Rattle.ring_order_proof.proofs.ProjectedEvents.{ring_run}
use Rattle.ring_core_spec.proofs.Quiet.{stepped_is}
use Rattle.ring_order_proof.proofs.ProjectedSteps.{IsOver, becomes_part, becomes_over}
use Rattle.ring_order_proof.proofs.DisciplinedNodes.{LivesBy, steps_by}
use Rattle.ring_order_proof.proofs.DisciplinedWorlds.{IsNodeKept, opened_on, run_group, own_keep, own_drop, below_above, tops}
use Rattle.ring_order_proof.proofs.SendOrdersOfNodes.{NodeSays, AllSay, core_says, all_say, in_order}
use Rattle.ring_order_proof.specs.RunFacts.{HasFacts}
use Rattle.ring_order_proof.specs.MidStep.{MayCome, stepped_node, world_after_core_step}
use Rattle.ring_order_proof.proofs.RingsOfRuns.{IsWhole, all_whole}
use Rattle.ring_order_proof.proofs.EpochsOfCores.{rings_told}
use Rattle.ring_order_proof.proofs.RunFacts.{AreNodes, all_nodes, facts_of, all_facts}

-- the event of ring cores by which the input arrives
record ComesBy {A : Type 0} (r : RingWorld A) (i : ℕ) (input : Input A) : Type 0 where
  pub event : RingEvent A
  pub is : world_after_event r event ≡ after_step r i (ring_step (r.cores i) input)

comes_by : {A : Type 0} → (w : World A) (outs : List (ℕ × Out A)) (i : ℕ) (input : Input A) → is_node w i ≡ true → MayCome w i input →
    ComesBy (ring_part w outs) i input
comes_by w outs i (TimeInput kind) node may =
    record { event = Timeout i kind; is = ap (λ t. stepped_if t (ring_part w outs) i (TimeInput kind)) node }
comes_by {A} w outs i (FrameInput frame) node (k, f, sent, to, same) =
    let r = ring_part w outs in
    record {
      event = Deliver i k;
      is =
          ap (handed r i) (sent)
          ∙ ap (λ t. handed_if t r i f.frame) to
          ∙ ap (λ t. stepped_if t r i (FrameInput f.frame)) node
          ∙ ap (λ (x : Frame A). after_step r i (ring_step (r.cores i) (FrameInput x))) same;
    }
comes_by w outs i (SendInput payload) node may = absurd may

no_payload : {A : Type 0} → (w : World A) (i : ℕ) (input : Input A) → MayCome w i input → (p : Payload A) → input ≡ SendInput p → ⊥
no_payload {A} w i input may p e = let none : MayCome w i (SendInput p) = subst (MayCome w i) e may in none

-- replacing one node's value
put_nodes : {A : Type 0} → (P : Node A → Type 0) (nodes : ℕ → Node A) (i : ℕ) (n : Node A) → ((j : ℕ) → P (nodes j)) → P n → (j : ℕ) → P (with_node nodes i n j)
put_nodes P nodes i n all new j = cond_both (j == i) n (nodes j) P (λ e. new) (λ e. all j)

module _ {O A : Type 0} (object : Sequential O) (group : Group) (events : List (Event A)) (i : ℕ) (input : Input A) where
  abbrev w : World A
  w = run object (world_opening group) events

  abbrev after : World A
  after = world_after_core_step w i input

  steps_ring : is_node w i ≡ true → MayCome w i input → IsRingRun group after
  steps_ring node may =
      let ring = ring_run object group events in
      let n = stepped_node (w.nodes i) input in
      let outs = (ring_step (w.nodes i).core input).outs in
      let c = comes_by w ring.outs i input node may in
      let over : IsOver w ring.outs =
      record { node_epochs = ring.node_epochs; settled = λ j. ((opened_on object group events).nodes j).kept.orderly.ready } in
      let all = becomes_over w ring.outs i n outs after (refl, refl, refl) over refl (stepped_is (w.nodes i).core input) in
      record {
        events = ring.events ++ c.event ∷ [];
        outs = ring.outs ++ by i outs;
        part =
            cores-append (unformed group.count) ring.events (c.event ∷ [])
            ∙ ap (λ (r : RingWorld A). world_after_event r c.event) ring.part
            ∙ c.is
            ∙ becomes_part w ring.outs i n outs after (refl, refl, refl);
        node_epochs = all.node_epochs;
      }

  pub between_nodes : group.count ≤ 16 → is_node w i ≡ true → MayCome w i input → AreNodes group after
  between_nodes few node may =
      let n = w.nodes i in
      let before : AreNodes group w = all_nodes object group events few in
      let ring = steps_ring node may in
      let ordered : (j : ℕ) → Ordered (after.nodes j).core =
      put_nodes (λ (m : Node A). Ordered m.core) w.nodes i (stepped_node n input) before.ordered (kept_step Ordered ordering n.core input (before.ordered i)) in
      let says : NodeSays n = all_say object group events i in
      let rings = rings_told group w before.ring i (before.ordered i) in
      let more = core_says n.core input n.epochs (no_payload w i input may) (before.ordered i) says.speaks rings says.said in
      let all : AllSay after =
      put_nodes (λ (m : Node A). NodeSays m) w.nodes i (stepped_node n input) (all_say object group events) (record { speaks = more.1; said = more.0 }) in
      record {
        ring = ring;
        cores = subst (λ (x : RingWorld A). IsWhole x) ring.part (all_whole group.count ring.events);
        ordered = ordered;
        speaks = λ j. in_order (after.nodes j) (all j) (rings_told group after ring j (ordered j));
        few = before.few;
      }

  pub between_facts : group.count ≤ 16 → is_node w i ≡ true → MayCome w i input → HasFacts after
  between_facts few node may = facts_of group after (between_nodes few node may)

  -- The lives there: the nodes keep their discipline, and lives are extended

  kept : (j : ℕ) → IsNodeKept group (w.nodes j)
  kept j = ((opened_on object group events).nodes j).kept

  steps : LivesBy (w.nodes i) (stepped_node (w.nodes i) input).epochs
  steps = steps_by object (w.nodes i) input (kept i).orderly

  may : AllMayHappen group (w.nodes i).epochs steps.events
  may = subst (λ g. AllMayHappen g (w.nodes i).epochs steps.events) (kept i).group_is steps.may

  -- a property of each life before the step, and of this one, holds of all
  in_between : (P : List (Epoch A) → List (Epoch A) → Type 0) → ((j : ℕ) → P (w.nodes j).epochs (w.nodes j).epochs) → P [] []
      → P (w.nodes i).epochs (stepped_node (w.nodes i) input).epochs → (p : ℕ) → P (epochs_in w p) (epochs_in after p)
  in_between P all none new p = by (is_node w p)
    where
      here : P (w.nodes p).epochs (after.nodes p).epochs
      here = by_node (p == i) refl
        where
          by_node : (b : Bool) → (p == i) ≡ b → P (w.nodes p).epochs (cond b (stepped_node (w.nodes i) input) (w.nodes p)).epochs
          by_node true e = subst (λ q. P (w.nodes q).epochs (stepped_node (w.nodes i) input).epochs) (sym (eqb-true p i e)) new
          by_node false e = all p

      by : (b : Bool) → P (if b then (w.nodes p).epochs else []) (if b then (after.nodes p).epochs else [])
      by true = here
      by false = none

  between_keep : KeepsDiscipline group (epochs_in after)
  between_keep = in_between (λ old new. IsOrderly group new) (λ j. (kept j).keeps) (λ s older h. absurd h)
      (subst (λ (l : List (Epoch A)). IsOrderly group l) (sym steps.node_epochs) (events-orderly group (w.nodes i).epochs steps.events may (kept i).keeps))

  between_drop : DropsCommitted group (epochs_in after)
  between_drop =
      let drops : (j : ℕ) → DropsOnlyCommitted group (w.nodes j).epochs = λ j. subst (λ g. DropsOnlyCommitted g (w.nodes j).epochs) (kept j).group_is (kept j).orderly.drops in
      in_between (λ old new. DropsOnlyCommitted group new) drops (λ s older h. absurd h)
      (subst (λ (l : List (Epoch A)). DropsOnlyCommitted group l) (sym steps.node_epochs) (events-dropping group (w.nodes i).epochs steps.events may (drops i)))

  own_between : (p : ℕ) → IsEpochsExtended (epochs_in w p) (epochs_in after p)
  own_between = in_between (λ old new. IsEpochsExtended old new) (λ j. on-self (w.nodes j).epochs) tt
      (subst (λ (l : List (Epoch A)). IsEpochsExtended (w.nodes i).epochs l) (sym steps.node_epochs) (events-on group (w.nodes i).epochs steps.events may))

  module _ (few : group.count ≤ 16) (node : is_node w i ≡ true) (comes : MayCome w i input) where
    rises-world_after_core_step : (p : ℕ) → Rises (epochs_in after p)
    rises-world_after_core_step = (between_facts few node comes).own.rises

    above-world_after_core_step : AreAbove (epochs_in after) (tops after)
    above-world_after_core_step p = below_above (epochs_in after p) (rises-world_after_core_step p)

    pub between_rules : KeepsRules group (whole_epochs_in after)
    between_rules =
        subst (λ g. KeepsRules group (λ p. whole_epochs g (epochs_in after) (tops after p) p)) (sym (run_group object group events))
        (rules-whole group (epochs_in after) (tops after) above-world_after_core_step rises-world_after_core_step between_keep between_drop)

    pub between_on : (p : ℕ) → IsEpochsExtended (whole_epochs_in w p) (whole_epochs_in after p)
    between_on p =
        let f = all_facts object group events few in
        let on = filled-on group (epochs_in w) (tops w) (λ q. below_above (epochs_in w q) (f.own.rises q)) f.members f.text f.own
        (own_keep object group events) (own_drop object group events) (epochs_in after) own_between rises-world_after_core_step (tops after) above-world_after_core_step p in
        subst (λ g. IsEpochsExtended (whole_epochs g (epochs_in w) (tops w p) p) (whole_epochs g (epochs_in after) (tops after p) p)) (sym (run_group object group events)) on
