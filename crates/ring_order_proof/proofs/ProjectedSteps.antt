-- An event of a world of nodes, as events of a world of ring cores: the core's own step and the payloads handed over after it, or
-- the core's stop.
use Rattle.std.proofs.Common.{◌≡◌, ℕ, Bool, true, false, ◌==◌, cond, List, [], ◌∷◌, ◌++◌, Some, None, inl, inr, ◌≢◌, refl, ap, sym, ◌∙◌, subst, append-nil}
use Rattle.std.specs.Prelude.{filter_map, ◌&&◌}
use Rattle.std.specs.List.{cons_option}
use Rattle.std.proofs.Math.Path.{fun_ext}
use Rattle.std.proofs.lemmas.Bool.{cond_both, eq-eqb}
use Rattle.std.proofs.lemmas.Bool.Decides.{eqb_tells}
use Rattle.std.proofs.lemmas.List.Elements.{filter_map-append}
use Rattle.ring_base.specs.Group.{Group}
use Rattle.ring_base.proofs.TwoEqual.{ap-both}
use Rattle.ring_object.specs.Operations.{Sequential}
use Rattle.ring_payload.specs.declared.content.Payload.{Payload}
use Rattle.ring_core_spec.specs.declared.input.Input.{Input}
use Rattle.ring_core_spec.specs.declared.out.Out.{Out}
use Rattle.ring_core_spec.specs.declared.out.Out.TheVariants.{Send as SendOut, Agreed, Safe, Trans, Rest, Regular}
use Rattle.ring_core_spec.specs.State.{Core, StepResult, halted}
use Rattle.ring_core_spec.specs.Giving.{may_install}
use Rattle.ring_core_spec.specs.Stepping.{ring_step}
use Rattle.ring_log.specs.Epochs.{Epoch, history_opening_of, epochs_with_sends, epochs_with_trim}
use Rattle.ring_node_spec.specs.declared.input.Input.{Input as NodeInput}
use Rattle.ring_node_spec.specs.EpochHistories.{epochs_after_event, epochs_after}
use Rattle.ring_node_spec.specs.Nodes.{Node, node_known_log, node_stopped, is_closed, is_restored}
use Rattle.ring_node_spec.specs.DueSends.{due_of_outputs}
use Rattle.ring_payload.specs.declared.call.Call.{Call as OneCall}
use Rattle.ring_session.specs.declared.ticket_answer.TicketAnswer.{TicketAnswer}
use Rattle.ring_node_spec.specs.Stepping.{handed_over, node_after_outputs, send_of, with_dropped, newly_committed, drops, did, settled, after_core, node_step}
use Rattle.ring_node_spec.specs.Worlds.{World, with_node as put_node, is_node as is_world_node, carried_frames, after_step as after_node}
use Rattle.ring_core_proof.specs.declared.event.RingEvent.{RingEvent}
use Rattle.ring_core_proof.specs.Worlds.{with_core, transmission_by, after_step, stopped_if, world_after_event, run}
use Rattle.ring_core_proof.specs.Lives.{output_if_by}
use Rattle.ring_core_proof.proofs.Lifting.{put-put, put-here}
use Rattle.ring_order_proof.specs.Projection.{ring_part, epochs_as_received, sends_to, by, CoreEvents, no_core_events, core_events_if_sound, core_events_of_step, core_events_of_stop_if}
use Rattle.ring_core_spec.proofs.Quiet.{stepped_is}
use Rattle.ring_order_proof.proofs.ProjectedSends.{with_cores, run_sends, handed_is}
use Rattle.ring_node_spec.proofs.EpochsAfterOutputs.{through-append}
use Rattle.ring_log.specs.KnownLog.{KnownLog, known_log_of, retained_log, is_known_log_sound}
use Rattle.ring_log.specs.Logs.{committed_calls}

-- Nodes and their cores

abbrev pub cores_of : {A : Type 0} → (ℕ → Node A) → ℕ → Core A
cores_of nodes i = (nodes i).core

pub put_core : {A : Type 0} → (nodes : ℕ → Node A) (i : ℕ) (n : Node A) → with_core (cores_of nodes) i n.core ≡ cores_of (put_node nodes i n)
put_core {A} nodes i n = fun_ext (λ j. each (j == i) (nodes j))
  where
    each : (t : Bool) (m : Node A) → cond t n.core m.core ≡ (cond t n m).core
    each true m = refl
    each false m = refl

-- Frames

sends_carried : {A : Type 0} → (i : ℕ) (outs : List (Out A)) → filter_map (transmission_by i) outs ≡ carried_frames i (filter_map send_of outs)
sends_carried i [] = refl
sends_carried i (SendOut to frame ∷ outs) = ap (λ fs. record { from = i; to = to; frame = frame } ∷ fs) (sends_carried i outs)
sends_carried i (Agreed ring n x ∷ outs) = sends_carried i outs
sends_carried i (Safe ring upto ∷ outs) = sends_carried i outs
sends_carried i (Trans old new set ∷ outs) = sends_carried i outs
sends_carried i (Rest ring n x ∷ outs) = sends_carried i outs
sends_carried i (Regular ring set ∷ outs) = sends_carried i outs

-- Lives

lived_unsent : {A : Type 0} → (epochs : List (Epoch A)) (o : Out A) → epochs_as_received (epochs_after_event epochs o) ≡ epochs_after_event (epochs_as_received epochs) o
lived_unsent epochs (SendOut to frame) = refl
lived_unsent [] (Agreed ring n x) = refl
lived_unsent (s ∷ older) (Agreed ring n x) = refl
lived_unsent [] (Safe ring upto) = refl
lived_unsent (s ∷ older) (Safe ring upto) = refl
lived_unsent epochs (Trans old new set) = refl
lived_unsent epochs (Rest ring n x) = refl
lived_unsent epochs (Regular ring set) = refl

through_unsent : {A : Type 0} → (epochs : List (Epoch A)) (outs : List (Out A)) → epochs_as_received (epochs_after epochs outs) ≡ epochs_after (epochs_as_received epochs) outs
through_unsent epochs [] = refl
through_unsent epochs (o ∷ outs) = through_unsent (epochs_after_event epochs o) outs ∙ ap (λ l. epochs_after l outs) (lived_unsent epochs o)

pub hands_unsent : {A : Type 0} → (ps : List (Payload A)) (epochs : List (Epoch A)) → epochs_as_received (epochs_with_sends ps epochs) ≡ epochs_as_received epochs
hands_unsent ps [] = refl
hands_unsent ps (s ∷ older) = refl

pub trims_unsent : {A : Type 0} → (places : ℕ) (epochs : List (Epoch A)) → epochs_as_received (epochs_with_trim places epochs) ≡ epochs_as_received epochs
trims_unsent places [] = refl
trims_unsent places (s ∷ older) = refl

-- the outputs of processor i in a step, as processor j's

own_given : {A : Type 0} → (i : ℕ) (outs : List (Out A)) → filter_map (output_if_by i) (by i outs) ≡ outs
own_given i [] = refl
own_given {A} i (o ∷ outs) =
    ap (λ b. cons_option (cond b (Some o) None) (filter_map (output_if_by i) (by i outs))) (eq-eqb i i refl) ∙ ap (λ xs. o ∷ xs) (own_given i outs)

other_given : {A : Type 0} → (i j : ℕ) → (i == j) ≡ false → (outs : List (Out A)) → filter_map (output_if_by j) (by i outs) ≡ []
other_given i j h [] = refl
other_given {A} i j h (o ∷ outs) =
    ap (λ b. cons_option (cond b (Some o) None) (filter_map (output_if_by j) (by i outs))) h ∙ other_given i j h outs

-- The lives of all nodes consist of their cores' outputs

abbrev pub AreLives : {A : Type 0} → (ℕ → Node A) → List (ℕ × Out A) → Type 0
AreLives nodes outs = (i : ℕ) → epochs_as_received (nodes i).epochs ≡ epochs_after (history_opening_of i) (filter_map (output_if_by i) outs)

-- one node has another life, extended by its core's further outputs
lives_put : {A : Type 0} → (nodes : ℕ → Node A) (outs : List (ℕ × Out A)) (i : ℕ) (n : Node A) (more : List (Out A)) →
    epochs_as_received n.epochs ≡ epochs_as_received (epochs_after (nodes i).epochs more) → AreLives nodes outs → AreLives (put_node nodes i n) (outs ++ by i more)
lives_put {A} nodes outs i n more h node_epochs j = elim (eqb_tells j i) [
  | inl same ↦ subst (λ k. epochs_as_received (put_node nodes i n k).epochs ≡ epochs_after (history_opening_of k) (filter_map (output_if_by k) (outs ++ by i more))) (sym same.1) here
  | inr other ↦ there other.0 (away other.1)
]
  where
    here : epochs_as_received (put_node nodes i n i).epochs ≡ epochs_after (history_opening_of i) (filter_map (output_if_by i) (outs ++ by i more))
    here =
        ap (λ b. epochs_as_received (cond b n (nodes i)).epochs) (eq-eqb i i refl)
        ∙ h
        ∙ through_unsent (nodes i).epochs more
        ∙ ap (λ l. epochs_after l more) (node_epochs i)
        ∙ sym (through-append (history_opening_of i) (filter_map (output_if_by i) outs) more)
        ∙ ap (λ xs. epochs_after (history_opening_of i) (filter_map (output_if_by i) outs ++ xs)) (sym (own_given i more))
        ∙ ap (epochs_after (history_opening_of i)) (sym (filter_map-append (output_if_by i) outs (by i more)))

    there : (j == i) ≡ false → (i == j) ≡ false → epochs_as_received (put_node nodes i n j).epochs ≡ epochs_after (history_opening_of j) (filter_map (output_if_by j) (outs ++ by i more))
    there e f =
        ap (λ b. epochs_as_received (cond b n (nodes j)).epochs) e
        ∙ node_epochs j
        ∙ ap (epochs_after (history_opening_of j)) (sym (append-nil (filter_map (output_if_by j) outs)))
        ∙ ap (λ xs. epochs_after (history_opening_of j) (filter_map (output_if_by j) outs ++ xs)) (sym (other_given i j f more))
        ∙ ap (epochs_after (history_opening_of j)) (sym (filter_map-append (output_if_by j) outs (by i more)))

    away : j ≢ i → (i == j) ≡ false
    away d = elim (eqb_tells i j) [
      | inl same ↦ absurd (d (sym same.1))
      | inr other ↦ other.0
    ]

-- The relation between a world of nodes and one of ring cores, as events happen

pub record IsOver {A : Type 0} (w : World A) (outs : List (ℕ × Out A)) : Type 0 where
  pub node_epochs : AreLives w.nodes outs
  -- no installation is due in any core
  pub settled : (i : ℕ) → may_install (w.nodes i).core ≡ false

-- the events of ring cores turn the one world's cores into the other's, with these outputs
pub record Leads {A : Type 0} (w : World A) (outs : List (ℕ × Out A)) (s : CoreEvents A) (after : World A) : Type 0 where
  pub part : run (ring_part w outs) s.events ≡ ring_part after (outs ++ s.outs)
  pub over : IsOver after (outs ++ s.outs)

settled_put : {A : Type 0} → (nodes : ℕ → Node A) (i : ℕ) (n : Node A) → ((j : ℕ) → may_install (nodes j).core ≡ false) → may_install n.core ≡ false →
    (j : ℕ) → may_install (put_node nodes i n j).core ≡ false
settled_put nodes i n h e j = cond_both (j == i) n (nodes j) (λ m. may_install m.core ≡ false) (λ f. e) (λ f. h j)

-- nothing happens to the cores
pub stays : {A : Type 0} → (w : World A) (outs : List (ℕ × Out A)) → IsOver w outs → Leads w outs no_core_events w
stays w outs o =
    let same : outs ≡ outs ++ [] = sym (append-nil outs) in
    record { part = ap (ring_part w) same; over = subst (IsOver w) same o }

-- one node has another core, with its frames and outputs; its life is extended by the outputs
module _ {A : Type 0} (w : World A) (outs : List (ℕ × Out A)) (i : ℕ) (n : Node A) (more : List (Out A)) where
  -- the world after it, whatever is added to its history and reports
  abbrev pub Becomes : World A → Type 0
  Becomes after =
      (after.group ≡ w.group) × (after.nodes ≡ put_node w.nodes i n) × (after.frames ≡ w.frames ++ filter_map (transmission_by i) more)

  pub becomes_part : (after : World A) → Becomes after →
      with_cores (after_step (ring_part w outs) i (record { core = n.core; outs = more }))
      (with_core (cores_of w.nodes) i n.core) ≡ ring_part after (outs ++ by i more)
  becomes_part after b =
      ap (λ cores. record {
        total = w.group.count;
        cores = cores;
        frames = w.frames ++ filter_map (transmission_by i) more;
        outs = outs ++ by i more;
      }) (put_core w.nodes i n)
      ∙ ap (λ nodes. record {
        total = w.group.count;
        cores = cores_of nodes;
        frames = w.frames ++ filter_map
            (transmission_by i) more;
        outs = outs ++ by i more;
      }) (sym b.1)
      ∙ ap (λ frames. record { total = w.group.count; cores = cores_of after.nodes; frames = frames; outs = outs ++ by i more }) (sym b.2)
      ∙ ap (λ (group : Group). record { total = group.count; cores = cores_of after.nodes; frames = after.frames; outs = outs ++ by i more }) (sym b.0)

  pub becomes_over : (after : World A) → Becomes after → IsOver w outs → epochs_as_received n.epochs ≡ epochs_as_received (epochs_after (w.nodes i).epochs more) →
      may_install n.core ≡ false → IsOver after (outs ++ by i more)
  becomes_over after b o h e =
      record {
        node_epochs = subst (λ nodes. AreLives nodes (outs ++ by i more)) (sym b.1) (lives_put w.nodes outs i n more h o.node_epochs);
        settled = λ j. subst (λ nodes. may_install (nodes j).core ≡ false) (sym b.1) (settled_put w.nodes i n o.settled e j);
      }

-- A core's step, and then the payloads handed over

step_then_sends : {A : Type 0} → (w : World A) (outs : List (ℕ × Out A)) (i : ℕ) (s : StepResult A) (ps : List (Payload A)) →
    is_world_node w i ≡ true → may_install s.core ≡ false →
    run (after_step (ring_part w outs) i s) (sends_to i ps)
    ≡ with_cores (after_step (ring_part w outs) i s) (with_core (cores_of w.nodes) i (handed_over s.core ps))
step_then_sends {A} w outs i s ps m e =
    let r = after_step (ring_part w outs) i s in
    let here : r.cores i ≡ s.core = put-here (cores_of w.nodes) i s.core in
    run_sends r i ps m (subst (λ (c : Core A). may_install c ≡ false) (sym here) e)
    ∙ ap (with_cores r) (put-put (cores_of w.nodes) i s.core (handed_over (r.cores i) ps))
    ∙ ap (λ c. with_cores r (with_core (cores_of w.nodes) i (handed_over c ps))) here

-- A node's step, by whether its log is sound

module _ {O A : Type 0} (object : Sequential O) (w : World A) (outs : List (ℕ × Out A)) (over : IsOver w outs) (i : ℕ) (member : is_world_node w i ≡ true) where
  -- the log stops the node: the core stops
  pub halts : (after : World A) → Becomes w outs i (node_stopped (w.nodes i)) [] after → Leads w outs (core_events_of_stop_if true i) after
  halts after b =
      record {
        part =
            ap (λ t. stopped_if t (ring_part w outs) i) member
            ∙ ap-both (λ frames more. record {
              total = w.group.count;
              cores = with_core (cores_of w.nodes) i
                  (halted (w.nodes i).core);
              frames = frames;
              outs = more;
            })
            (sym (append-nil w.frames)) (sym (append-nil outs))
            ∙ becomes_part w outs i (node_stopped (w.nodes i)) [] after b;
        over = becomes_over w outs i (node_stopped (w.nodes i)) [] after b over refl refl;
      }

  -- the core's step, and what is due after it, whatever the node did, answered and dropped
  goes_on : (did : List (OneCall A)) (answers : List (TicketAnswer A)) (input : Input A) (event : RingEvent A) →
      world_after_event (ring_part w outs) event ≡ after_step (ring_part w outs) i (ring_step (w.nodes i).core input) →
      (epochs : List (Epoch A)) (due : List (Payload A)) → epochs_as_received epochs ≡ epochs_as_received (epochs_after (w.nodes i).epochs (ring_step (w.nodes i).core input).outs) →
      (after : World A) →
      Becomes w outs i (record (node_after_outputs (w.nodes i) (ring_step (w.nodes i).core input).core [] due) { epochs = epochs; done = did; answers = answers })
      (ring_step (w.nodes i).core input).outs after →
      Leads w outs (core_events_if_sound true i event due (ring_step (w.nodes i).core input).outs) after
  goes_on did answers input event e epochs due l after b =
      let s = ring_step (w.nodes i).core input in
      let n = record (node_after_outputs (w.nodes i) s.core [] due) { epochs = epochs; done = did; answers = answers } in
      let empty_step = stepped_is (w.nodes i).core input in
      record {
        part = ap (λ r. run r (sends_to i due)) e ∙ step_then_sends w outs i s due member empty_step ∙ becomes_part w outs i n s.outs after b;
        over = becomes_over w outs i n s.outs after b over l (handed_is s.core due empty_step);
      }

  settles : (input : Input A) (event : RingEvent A) → world_after_event (ring_part w outs) event ≡ after_step (ring_part w outs) i (ring_step (w.nodes i).core input) →
      (t : Bool) (k : KnownLog A) → (epochs : List (Epoch A)) (due : List (Payload A))
      → epochs ≡ epochs_after (w.nodes i).epochs (ring_step (w.nodes i).core input).outs →
      Leads w outs (core_events_if_sound t i event due (ring_step (w.nodes i).core input).outs) (after_node w i (settled object t (w.nodes i)
      (node_after_outputs (w.nodes i) (ring_step (w.nodes i).core input).core epochs due)
      (ring_step (w.nodes i).core input).outs k))
  settles input event e false k epochs due l = halts _ (refl, refl, refl)
  settles input event e true k epochs due l =
      let n = w.nodes i in
      let s = ring_step n.core input in
      let new = node_after_outputs n s.core epochs due in
      let more = newly_committed (node_known_log n) k in
      let d = did object n new s.outs k more in
      let sent = ap (λ frames. w.frames ++ frames) (sym (sends_carried i s.outs)) in
      let heard : epochs_as_received (epochs_with_sends due epochs) ≡ epochs_as_received (epochs_after n.epochs s.outs) = hands_unsent due epochs ∙ ap epochs_as_received l in
      cond_both (drops object (is_closed n.group new.epochs) k)
      (record d { node = with_dropped k.committed d.node; dropped = committed_calls (retained_log k) }) d
      (λ x. Leads w outs (core_events_if_sound true i event due s.outs) (after_node w i x))
      (λ t. goes_on d.node.done d.node.answers input event e (epochs_with_trim k.committed (epochs_with_sends due epochs)) due (trims_unsent k.committed (epochs_with_sends due epochs) ∙ heard) _
      (refl, refl, sent))
      (λ f. goes_on d.node.done d.node.answers input event e (epochs_with_sends due epochs) due heard _ (refl, refl, sent))

  -- a frame or a timeout
  pub steps : (input : Input A) (event : RingEvent A) (given : NodeInput A) → world_after_event (ring_part w outs) event
      ≡ after_step (ring_part w outs) i (ring_step (w.nodes i).core input) →
      node_step object (w.nodes i) given ≡ after_core object (w.nodes i) (ring_step (w.nodes i).core input) →
      Leads w outs (core_events_of_step object (w.nodes i) i event (ring_step (w.nodes i).core input)) (after_node w i (node_step object (w.nodes i) given))
  steps input event given e g =
      let n = w.nodes i in
      let s = ring_step n.core input in
      let epochs = epochs_after n.epochs s.outs in
      let k = known_log_of n.group epochs in
      subst (λ x. Leads w outs (core_events_of_step object n i event s) (after_node w i x)) (sym g)
      (settles input event e (is_known_log_sound n.group epochs && is_restored object k) k epochs (due_of_outputs object n s.core n.epochs s.outs) refl)
