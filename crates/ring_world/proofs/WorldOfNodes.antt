-- The fields of the code go on representing the world, event by event.
use Rattle.std.proofs.Common.{◌≡◌, ◌⊎◌, ℕ, ◌≤◌, ◌==◌, Bool, true, false, List, [], ◌∷◌, ◌++◌, length, drop, length-set}
use Rattle.std.proofs.Common.{Option, Some, None, Ok, get_or, refl, ap, ◌∙◌, sym, subst, inl, inr, append-nil}
use Rattle.std.specs.Prelude.{not, slice_set, MatchOption, if◌then◌else◌}
use Rattle.std.specs.List.{AllByRecursion}
use Rattle.std.proofs.Math.Seq.{drop-append_seam}
use Rattle.std.proofs.lemmas.Bool.{and_from}
use Rattle.ring_base.specs.Group.{Group}
use Rattle.ring_base.proofs.Each.{each-push}
use Rattle.ring_base.proofs.Faults.{was_stopped, was_running}
use Rattle.ring_wire.specs.Frames.{FrameFits}
use Rattle.ring_object.specs.Operations.{Sequential}
use Rattle.ring_core_spec.specs.State.{OutgoingFrame, Transmission}
use Rattle.ring_node_spec.specs.declared.input.Input.{Input}
use Rattle.ring_node_spec.specs.Nodes.{Node, node_known_log, node_stopped, is_stopped}
use Rattle.ring_node_spec.specs.Stepping.{TicketAnswer, node_step, submit_fault, node_after_submit}
use Rattle.ring_session.specs.Tickets.{TicketCall}
use Rattle.ring_base.specs.declared.fault.Fault.{Fault}
use Rattle.ring_base.specs.declared.fault.Fault.TheVariants.{Memory, Stopped as StoppedFault}
use Rattle.ring_world.proofs.SubmitRefused.{not_memory}
use Rattle.ring_base.specs.Fault.{fault_number}
use Rattle.ring_payload.specs.declared.call.Call.{Call}
use Rattle.ring_node_spec.specs.declared.event.Event.{Event}
use Rattle.ring_node_spec.specs.declared.event.Event.TheVariants.{Issue, Stop}
use Rattle.ring_node_spec.specs.declared.item.Item.{Item}
use Rattle.ring_node_spec.specs.declared.item.Item.TheVariants.{Issue as IssuedItem}
use Rattle.ring_node_spec.specs.declared.client_report.Told.{Told}
use Rattle.ring_node_spec.specs.declared.client_report.Told.TheVariants.{Refused as ToldRefused}
use Rattle.ring_node_spec.specs.Worlds.{World, world_opening, run, world_after_event, with_node, after_step, world_after_node_step, world_after_input_if_member}
use Rattle.ring_node_spec.specs.Worlds.{world_after_stop_if_member, world_after_submit, world_after_submit_if_member, carried_frames, reply_items_of, reports_of_answers, calls_past}
use Rattle.ring_node_spec.proofs.NodeChanges.{no_calls_past, stopped_same}
use Rattle.ring_order_proof.specs.Linear.{IsEventCallWithinLimits}
use Rattle.ring_order_proof.proofs.ConsistentRuns.{run-more}
use Rattle.ring_order_proof.proofs.TrimmedRuns.{all-undropping}
use Rattle.ring_world.specs.WorldView.{WorldView, told_of_events, world_of, told_by_event, stepping_node_in, is_running_in, IsEventOutcome}
use Rattle.ring_node.specs.declared.outs.Outs.{Outs}
use Rattle.ring_world.specs.Steps.{HasStepped}
use Rattle.ring_world.specs.SpareCalls.{SpareCalls, HaveCopies, Holds, copies_after_answers}
use Rattle.ring_world.specs.WorldInvariant.{KeepsCopies, IsWorldKept, IsWorld}
use Rattle.ring_world.proofs.Spared.{copies-more}
use Rattle.ring_world.proofs.EventLimits.{step_keeps}
use Rattle.ring_world.proofs.Events.{tells_answers, tells_refusal, tells_memory}
use Rattle.ring_world.proofs.StoppedNode.{silent}
use Rattle.ring_world.proofs.AnsweredCopies.{step-goes}
use Rattle.ring_world.proofs.NodePlaces.{Stands, known, node_is, copies_are, copies_set, copies_same, put_kept, same_nodes}

-- the reports of the event
told_more : {O A : Type 0} (object : Sequential O) (w v : World A) (e : Event A) (more : List (Told A)) → world_after_event object w e ≡ v
    → v.told ≡ w.told ++ more → told_by_event object w e ≡ more
told_more {A = A} object w v e more is t = ap (drop (length w.told)) (ap (λ (x : World A). x.told) is ∙ t) ∙ drop-append_seam w.told more

idle_is : {O A : Type 0} (object : Sequential O) {p old : WorldView A} (e : Event A) → p ≡ old
    → world_after_event object (world_of object old) e ≡ world_of object old → world_after_event object (world_of object p) e ≡ world_of object p
idle_is {A = A} object e was same = subst (λ (r : WorldView A). world_after_event object (world_of object r) e ≡ world_of object r) (sym was) same

module _ {O A : Type 0} {object : Sequential O} where
  -- one more event
  tells : {group : Group} {events es : List (Event A)} {nodes nodes' : List (Node A)} {spares spares' : List (SpareCalls A)}
      {frames frames' : List (Transmission A)} {history history' : List (Item A)} {told told' : List (Told A)} {longest longest' : List (Call A)}
      {v : World A} (e d : Event A) → IsWorld object group events nodes spares frames history told longest → d ≡ e → IsEventCallWithinLimits e →
      world_after_event object (run object (world_opening group) events) e ≡ v → v.group ≡ (run object (world_opening group) events).group →
      IsWorldKept v nodes' spares' frames' history' told' longest' → es ≡ events ++ d ∷ [] →
      IsWorld object group es nodes' spares' frames' history' told' longest'
  tells {group} {events} {nodes'} {spares'} {frames'} {history'} {told'} {longest'} {v} e d h copy fits is same kept es_is =
      let opening = world_opening group in
      let next : run object opening (events ++ d ∷ []) ≡ v =
      run-more object opening events d ∙ ap (world_after_event object (run object opening events)) copy ∙ is in
      rw es_is record {
        kept = subst (λ (x : World A). IsWorldKept x nodes' spares' frames' history' told' longest') (sym next) kept;
        same = ap (λ (x : World A). x.group) next ∙ same ∙ h.same;
        fit = each-push IsEventCallWithinLimits events d h.fit (subst IsEventCallWithinLimits (sym copy) fits);
        few = h.few;
      }

  is_done : {p old : WorldView A} {es : List (Event A)} {ts : List (Told A)} {done : ℕ} {v : World A} (e d : Event A) (more : List (Told A)) → p ≡ old
      → d ≡ e → world_after_event object (world_of object p) e ≡ v → v.told ≡ (world_of object p).told ++ more →
      es ≡ p.events ++ d ∷ [] → ts ≡ p.told ++ more → IsEventOutcome object e old (record { group = p.group; events = es; told = ts; done = done })
  is_done {p} {es = es} {ts = ts} {done = done} {v = v} e d more was copy is t es_is ts_is =
      let q : WorldView A = record { group = p.group; events = es; told = ts; done = done } in
      subst (λ (r : WorldView A). IsEventOutcome object e r q) was (inl (record {
        group = refl;
        events = es_is ∙ ap (λ (x : Event A). p.events ++ x ∷ []) copy;
        told = ts_is ∙ ap (λ xs. p.told ++ xs) (sym (told_more object (world_of object p) v e more is t));
      }))

  -- An event that changes nothing

  module _ {p old : WorldView A} {es : List (Event A)} (e d : Event A) (was : p ≡ old)
      (same : world_after_event object (world_of object old) e ≡ world_of object old) (copy : d ≡ e) (es_is : es ≡ p.events ++ d ∷ []) where
    pub idle_world : {nodes : List (Node A)} {spares : List (SpareCalls A)} {frames : List (Transmission A)} {history : List (Item A)} {longest : List (Call A)}
        → IsEventCallWithinLimits e → IsWorld object p.group p.events nodes spares frames history p.told longest
        → IsWorld object p.group es nodes spares frames history p.told longest
    idle_world fits h = tells e d h copy fits (idle_is object e was same) refl h.kept es_is

    pub idle_goes : {done : ℕ} → IsEventOutcome object e old (record { group = p.group; events = es; told = p.told; done = done })
    idle_goes = is_done e d [] was copy (idle_is object e was same) (sym (append-nil (world_of object p).told)) es_is (sym (append-nil p.told))

-- the outputs of a node's step, and the node after it
pub record IsStep {O A : Type 0} (object : Sequential O) (n : Node A) (input : Input A) (after : Node A)
    (sent : List (OutgoingFrame A)) (answered : List (TicketAnswer A)) (committed : List (Call A)) : Type 0 where
  pub node : after ≡ (node_step object n input).node
  pub sends : sent ≡ (node_step object n input).sends
  pub answers : answered ≡ (node_step object n input).answers
  pub committed_is : committed ≡ (node_step object n input).committed

pub stepped_so : {O A T : Type 0} {object : Sequential O} {n after : Node A} {input : Input A} {x : T} {outs : Outs A}
    → HasStepped object n input (Ok x) after outs → IsStep object n input after outs.sends.items outs.answers.items outs.committed.items
stepped_so h = record { node = h.ok; sends = h.sends; answers = h.answers; committed_is = h.committed }

module _ {O A : Type 0} {object : Sequential O} {p old : WorldView A} {nodes : List (Node A)} {spares : List (SpareCalls A)}
    {frames : List (Transmission A)} {history : List (Item A)} {longest : List (Call A)} {i m : ℕ}
    (here : Stands object p old nodes spares frames history longest i m) where
  abbrev w : World A
  w = world_of object p

  abbrev kept : IsWorldKept w nodes spares frames history p.told longest
  kept = here.world.kept

  -- The node stepped

  module _ {n after : Node A} {input : Input A} {sent : List (OutgoingFrame A)} {answered : List (TicketAnswer A)} {committed : List (Call A)}
      (found : n ≡ get_or nodes m n) (gave : IsStep object n input after sent answered committed) where
    gives : IsStep object (w.nodes i) input after sent answered committed
    gives = subst (λ (x : Node A). IsStep object x input after sent answered committed) (node_is here found) gave

    pub sends_fit : AllByRecursion (λ (s : OutgoingFrame A). FrameFits s.frame) (node_step object (w.nodes i) input).sends
        → AllByRecursion (λ (s : OutgoingFrame A). FrameFits s.frame) sent
    sends_fit fit = subst (AllByRecursion (λ (s : OutgoingFrame A). FrameFits s.frame)) (sym gives.sends) fit

    pub answers_few : length (node_step object (w.nodes i) input).answers ≤ 64 → length answered ≤ 64
    answers_few few = subst (λ l. l ≤ 64) (sym (ap length gives.answers)) few

    module _ {s : SpareCalls A} (e : Event A) (spare : s ≡ get_or spares m s)
        (same : world_after_event object (world_of object old) e ≡ world_after_node_step object (world_of object old) i input) where
      step_is : world_after_event object w e ≡ after_step w i (node_step object (w.nodes i) input)
      step_is = subst (λ (r : WorldView A). world_after_event object (world_of object r) e ≡ world_after_node_step object (world_of object r) i input) (sym here.was) same
          ∙ ap (λ b. world_after_input_if_member object b w i input) (known here)

      step_left : HaveCopies s.calls (node_step object (w.nodes i) input).answers
          × Holds (copies_after_answers s.calls (node_step object (w.nodes i) input).answers) (node_step object (w.nodes i) input).node.tickets
          (node_step object (w.nodes i) input).node.done
      step_left = step-goes object (w.nodes i) input s.calls (copies_are here spare)

      -- each ticket that a step answers has its copy
      pub answers_left : HaveCopies s.calls answered
      answers_left = subst (HaveCopies s.calls) (sym gives.answers) step_left.0

      pub step_world : {es : List (Event A)} {fs : List (Transmission A)} {is : List (Item A)} {ts : List (Told A)} {ls : List (Call A)} (d : Event A)
          (s' : SpareCalls A) → d ≡ e
          → stepping_node_in (world_of object old) e ≡ Some i → es ≡ p.events ++ d ∷ [] → s'.calls ≡ copies_after_answers s.calls answered
          → fs ≡ frames ++ carried_frames i sent → is ≡ history ++ reply_items_of answered → ts ≡ p.told ++ reports_of_answers i answered
          → ls ≡ longest ++ calls_past (length longest) (node_known_log after).committed committed
          → IsWorld object p.group es (slice_set nodes m after) (slice_set spares m s') fs is ts ls
      step_world d s' copy steps es_is s_is fs_is is_is ts_is ls_is =
          let st = node_step object (w.nodes i) input in
          let keeps : KeepsCopies after s' = subst (λ cs. Holds cs after.tickets after.done) (sym (s_is ∙ ap (copies_after_answers s.calls) gives.answers))
          (subst (λ (x : Node A). Holds (copies_after_answers s.calls st.answers) x.tickets x.done) (sym gives.node) step_left.1) in
          tells e d here.world copy (step_keeps (world_of object old) e i steps) step_is refl
          (put_kept here after refl (ap (λ (x : Node A). with_node w.nodes i x) (sym gives.node))
          (ap (λ xs. xs ++ carried_frames i st.sends) (sym kept.frames_are) ∙ sym (fs_is ∙ ap (λ xs. frames ++ carried_frames i xs) gives.sends))
          (ap (λ xs. xs ++ reply_items_of st.answers) (sym kept.history_is) ∙ sym (is_is ∙ ap (λ xs. history ++ reply_items_of xs) gives.answers))
          (sym (ap told_of_events (ts_is ∙ ap (λ xs. p.told ++ reports_of_answers i xs) gives.answers) ∙ tells_answers p.told w.told kept.told_is i st.answers))
          (ap (λ (xs : List (Call A)). xs ++ calls_past (length xs) (node_known_log st.node).committed st.committed) (sym kept.longest_is)
          ∙ sym (ls_is ∙ ap (λ (x : Node A). longest ++ calls_past (length longest) (node_known_log x).committed committed) gives.node
          ∙ ap (λ xs. longest ++ calls_past (length longest) (node_known_log st.node).committed xs) gives.committed_is))
          (copies_set here after s' keeps) (length-set spares m s')) es_is

      pub step_goes : {es : List (Event A)} {ts : List (Told A)} {done : ℕ} (d : Event A) → d ≡ e → es ≡ p.events ++ d ∷ []
          → ts ≡ p.told ++ reports_of_answers i answered → IsEventOutcome object e old (record { group = p.group; events = es; told = ts; done = done })
      step_goes d copy es_is ts_is = is_done e d (reports_of_answers i (node_step object (w.nodes i) input).answers) here.was copy step_is refl es_is
          (ts_is ∙ ap (λ xs. p.told ++ reports_of_answers i xs) gives.answers)

  -- The node stops

  halted_keeps : (s : SpareCalls A) → KeepsCopies (w.nodes i) s → KeepsCopies (node_stopped (w.nodes i)) s
  halted_keeps s k = k

  stop_is : world_after_event object w (Stop i) ≡ world_after_stop_if_member true w i
  stop_is = ap (λ b. world_after_stop_if_member b w i) (known here)

  halted_kept : {n after : Node A} → n ≡ get_or nodes m n → after ≡ node_stopped n
      → IsWorldKept (world_after_stop_if_member true w i) (slice_set nodes m after) spares frames history p.told longest
  halted_kept found halted =
      let now = node_stopped (w.nodes i) in
      rw (halted ∙ ap node_stopped (node_is here found)) (put_kept here now refl refl (sym kept.frames_are)
      (sym kept.history_is) (sym kept.told_is) (sym kept.longest_is) (copies_same here now halted_keeps) refl)

  pub stop_world : {n after : Node A} {es : List (Event A)} → n ≡ get_or nodes m n → after ≡ node_stopped n → es ≡ p.events ++ Stop i ∷ []
      → IsWorld object p.group es (slice_set nodes m after) spares frames history p.told longest
  stop_world found halted es_is = tells (Stop i) (Stop i) here.world refl tt stop_is refl (halted_kept found halted) es_is

  pub stop_goes : {e : Event A} {es : List (Event A)} {done : ℕ} → e ≡ Stop i → es ≡ p.events ++ Stop i ∷ []
      → IsEventOutcome object e old (record { group = p.group; events = es; told = p.told; done = done })
  stop_goes {es = es} {done = done} event es_is =
      let q : WorldView A = record { group = p.group; events = es; told = p.told; done = done } in
      subst (λ (e : Event A). IsEventOutcome object e old q) (sym event)
      (is_done (Stop i) (Stop i) [] here.was refl stop_is (sym (append-nil w.told)) es_is (sym (append-nil p.told)))

  -- The node's step was refused

  module _ {n : Node A} {fault : Fault} (e : Event A) (found : n ≡ get_or nodes m n)
      (refused : fault ≡ (if is_stopped n.core.state then StoppedFault else Memory)) where
    -- because it had stopped; it is unchanged
    module _ (d : Event A) (input : Input A) (stopped : fault ≡ StoppedFault) (copy : d ≡ e)
        (same : world_after_event object (world_of object old) e ≡ world_after_node_step object (world_of object old) i input) where
      silent_is : world_after_event object w e ≡ world_after_stop_if_member true w i
      silent_is =
          let was = subst (λ (r : WorldView A). world_after_event object (world_of object r) e ≡ world_after_node_step object (world_of object r) i input) (sym here.was) same in
          let node = w.nodes i in
          let t : is_stopped node.core.state ≡ true = ap (λ (x : Node A). is_stopped x.core.state) (sym (node_is here found))
          ∙ was_stopped (is_stopped n.core.state) fault refused stopped in
          let g = silent object node input t (all-undropping object p.group p.events i) in
          let st = node_step object node input in
          let calls = w.longest ++ calls_past (length w.longest) (node_known_log st.node).committed st.committed in
          let made : (ℕ → Node A) → List (Transmission A) → List (Item A) → List (Told A) → List (Call A) → World A = λ ns fs is ts ls.
          record w { nodes = ns; frames = fs; history = is; told = ts; longest = ls } in
          let stopped_now = with_node w.nodes i (node_stopped node) in
          was ∙ ap (λ b. world_after_input_if_member object b w i input) (known here)
          ∙ ap (λ ns. made ns (w.frames ++ carried_frames i st.sends) (w.history ++ reply_items_of st.answers) (w.told ++ reports_of_answers i st.answers) calls)
          (ap (with_node w.nodes i) (g.node ∙ sym (stopped_same node t)))
          ∙ ap (λ fs. made stopped_now fs (w.history ++ reply_items_of st.answers) (w.told ++ reports_of_answers i st.answers) calls)
          (ap (λ xs. w.frames ++ carried_frames i xs) g.sends ∙ append-nil w.frames)
          ∙ ap (λ is. made stopped_now w.frames is (w.told ++ reports_of_answers i st.answers) calls)
          (ap (λ xs. w.history ++ reply_items_of xs) g.answers ∙ append-nil w.history)
          ∙ ap (λ ts. made stopped_now w.frames w.history ts calls) (ap (λ xs. w.told ++ reports_of_answers i xs) g.answers ∙ append-nil w.told)
          ∙ ap (made stopped_now w.frames w.history w.told) (no_calls_past w.longest (node_known_log st.node).committed st.committed g.committed)

      pub silent_world : {after : Node A} {es : List (Event A)} → after ≡ node_stopped n → stepping_node_in (world_of object old) e ≡ Some i
          → es ≡ p.events ++ d ∷ [] → IsWorld object p.group es (slice_set nodes m after) spares frames history p.told longest
      silent_world halted steps es_is =
          tells e d here.world copy (step_keeps (world_of object old) e i steps) silent_is refl (halted_kept found halted) es_is

      pub silent_goes : {es : List (Event A)} {done : ℕ} → es ≡ p.events ++ d ∷ []
          → IsEventOutcome object e old (record { group = p.group; events = es; told = p.told; done = done })
      silent_goes es_is = is_done e d [] here.was copy silent_is (sym (append-nil w.told)) es_is (sym (append-nil p.told))

    -- for want of memory
    pub refused_goes : {es : List (Event A)} {done : ℕ} → (fault ≡ StoppedFault → ⊥) → stepping_node_in (world_of object old) e ≡ Some i
        → es ≡ p.events ++ Stop i ∷ [] → IsEventOutcome object e old (record { group = p.group; events = es; told = p.told; done = done })
    refused_goes {es} {done} running steps es_is =
        let q : WorldView A = record { group = p.group; events = es; told = p.told; done = done } in
        let runs = ap (λ (x : Node A). is_stopped x.core.state) (sym (node_is here found)) ∙ was_running (is_stopped n.core.state) fault refused running in
        let runs_here : is_running_in w i ≡ true = and_from _ _ (known here) (ap not runs) in
        subst (λ (r : WorldView A). IsEventOutcome object e r q) here.was (inr (inl (record {
          node = i;
          steps = subst (λ (r : WorldView A). stepping_node_in (world_of object r) e ≡ Some i) (sym here.was) steps;
          known = runs_here;
          group = refl;
          events = es_is;
          told = refl;
        })))

    -- for either reason
    module _ (d x : Event A) (input : Input A) (copy : d ≡ e) (stays : fault ≡ StoppedFault → x ≡ d) (stops : (fault ≡ StoppedFault → ⊥) → x ≡ Stop i)
        (same : world_after_event object (world_of object old) e ≡ world_after_node_step object (world_of object old) i input)
        (steps : stepping_node_in (world_of object old) e ≡ Some i) where
      why : (b : Bool) → fault ≡ (if b then StoppedFault else Memory) → (fault ≡ StoppedFault) ⊎ (fault ≡ StoppedFault → ⊥)
      why true h = inl h
      why false h = inr (λ is. absurd (cc (h, is)))

      one_more : {y : Event A} {es : List (Event A)} → x ≡ y → es ≡ p.events ++ x ∷ [] → es ≡ p.events ++ y ∷ []
      one_more same h = rw (← same) h

      world_by : {after : Node A} {es : List (Event A)} → (fault ≡ StoppedFault) ⊎ (fault ≡ StoppedFault → ⊥) → after ≡ node_stopped n
          → es ≡ p.events ++ x ∷ [] → IsWorld object p.group es (slice_set nodes m after) spares frames history p.told longest
      world_by (inl is) halted es_is = silent_world d input is copy same halted steps (one_more (stays is) es_is)
      world_by (inr runs) halted es_is = stop_world found halted (one_more (stops runs) es_is)

      goes_by : {es : List (Event A)} {done : ℕ} → (fault ≡ StoppedFault) ⊎ (fault ≡ StoppedFault → ⊥) → es ≡ p.events ++ x ∷ []
          → IsEventOutcome object e old (record { group = p.group; events = es; told = p.told; done = done })
      goes_by (inl is) es_is = silent_goes d input is copy same (one_more (stays is) es_is)
      goes_by (inr runs) es_is = refused_goes runs steps (one_more (stops runs) es_is)

      pub standing_world : {after : Node A} {es : List (Event A)} → after ≡ node_stopped n → es ≡ p.events ++ x ∷ []
          → IsWorld object p.group es (slice_set nodes m after) spares frames history p.told longest
      standing_world halted es_is = world_by (why (is_stopped n.core.state) refused) halted es_is

      pub standing_goes : {es : List (Event A)} {done : ℕ} → es ≡ p.events ++ x ∷ []
          → IsEventOutcome object e old (record { group = p.group; events = es; told = p.told; done = done })
      standing_goes es_is = goes_by (why (is_stopped n.core.state) refused) es_is

  -- A call is submitted

  module _ {n : Node A} {e : Event A} {c : Call A} (d : Event A) (event : e ≡ Issue i c) (copied : d ≡ e) (found : n ≡ get_or nodes m n) where
    copy : d ≡ Issue i c
    copy = copied ∙ event

    goes : (q : WorldView A) → IsEventOutcome object (Issue i c) old q → IsEventOutcome object e old q
    goes q g = subst (λ (x : Event A). IsEventOutcome object x old q) (sym event) g

    issue_is : (o : Option Fault) → submit_fault n ≡ o → world_after_event object w (Issue i c) ≡ world_after_submit o w i c
    issue_is o is = ap (λ b. world_after_submit_if_member b w i c) (known here) ∙ ap (λ x. world_after_submit x w i c) (ap submit_fault (sym (node_is here found)) ∙ is)

    pub issue_world : {s : SpareCalls A} {after : Node A} {es : List (Event A)} {is : List (Item A)} {a b : Call A} (s' : SpareCalls A) → IsEventCallWithinLimits e
        → submit_fault n ≡ None → after ≡ node_after_submit n c → s ≡ get_or spares m s → a ≡ c → s'.calls ≡ s.calls ++ Some a ∷ []
        → b ≡ c → is ≡ history ++ IssuedItem b ∷ [] → es ≡ p.events ++ d ∷ []
        → IsWorld object p.group es (slice_set nodes m after) (slice_set spares m s') frames is p.told longest
    issue_world {s} {after} s' fits free after_is spare a_is s_is b_is is_is es_is =
        let node = w.nodes i in
        let t : TicketCall A = record { call = c; since = length node.done } in
        let now : after ≡ node_after_submit node c = after_is ∙ ap (λ (x : Node A). node_after_submit x c) (node_is here found) in
        let calls : s'.calls ≡ s.calls ++ Some c ∷ [] = s_is ∙ ap (λ x. s.calls ++ Some x ∷ []) a_is in
        let holds : Holds (s.calls ++ Some c ∷ []) (node_after_submit node c).tickets node.done =
        copies-more s.calls node.tickets node.done t (copies_are here spare) in
        let keeps : KeepsCopies after s' = subst (λ cs. Holds cs after.tickets after.done) (sym calls)
        (subst (λ (x : Node A). Holds (s.calls ++ Some c ∷ []) x.tickets x.done) (sym now) holds) in
        tells (Issue i c) d here.world copy (subst IsEventCallWithinLimits event fits) (issue_is None free) refl
        (put_kept here after refl (ap (λ (x : Node A). with_node w.nodes i x) (sym now)) (sym kept.frames_are)
        (ap (λ xs. xs ++ IssuedItem c ∷ []) (sym kept.history_is) ∙ sym (is_is ∙ ap (λ x. history ++ IssuedItem x ∷ []) b_is))
        (sym kept.told_is) (sym kept.longest_is) (copies_set here after s' keeps) (length-set spares m s')) es_is

    pub issue_goes : {es : List (Event A)} {done : ℕ} → submit_fault n ≡ None → es ≡ p.events ++ d ∷ []
        → IsEventOutcome object e old (record { group = p.group; events = es; told = p.told; done = done })
    issue_goes {es} {done} free es_is = goes (record { group = p.group; events = es; told = p.told; done = done })
        (is_done (Issue i c) d [] here.was copy (issue_is None free) (sym (append-nil w.told)) es_is (sym (append-nil p.told)))

    -- and refused, for either reason
    module _ {fault : Fault} {b : Call A} {es : List (Event A)} {ts : List (Told A)}
        (why : MatchOption (submit_fault n) (fault ≡ Memory) (λ first. fault ≡ first)) (b_is : b ≡ c) (out : fault ≡ Memory → es ≡ p.events)
        (stays : (fault ≡ Memory → ⊥) → es ≡ p.events ++ d ∷ []) (ts_is : ts ≡ p.told ++ ToldRefused i b (fault_number fault) ∷ []) where
      told_is : {f : Fault} → fault ≡ f → ts ≡ p.told ++ ToldRefused i c (fault_number f) ∷ []
      told_is same = ts_is ∙ ap (λ x. p.told ++ ToldRefused i x (fault_number fault) ∷ []) b_is
          ∙ ap (λ x. p.told ++ ToldRefused i c (fault_number x) ∷ []) same

      events_are : (f : Fault) → submit_fault n ≡ Some f → fault ≡ f → es ≡ p.events ++ d ∷ []
      events_are f is same = stays (λ q. not_memory n f is (sym same ∙ q))

      refused_world : (o : Option Fault) → submit_fault n ≡ o → MatchOption o (fault ≡ Memory) (λ first. fault ≡ first) → IsEventCallWithinLimits e
          → IsWorld object p.group es nodes spares frames history ts longest
      refused_world None is first fits = rw (out first) record {
        kept = record {
          nodes_are = kept.nodes_are;
          many = kept.many;
          copies = kept.copies;
          copies_many = kept.copies_many;
          frames_are = kept.frames_are;
          history_is = kept.history_is;
          told_is = ap told_of_events (told_is first) ∙ tells_memory p.told w.told kept.told_is i c;
          longest_is = kept.longest_is;
        };
        same = here.world.same;
        fit = here.world.fit;
        few = here.world.few;
      }
      refused_world (Some f) is first fits =
          let node = node_is here found in
          let told = ap told_of_events (told_is first) ∙ tells_refusal p.told w.told kept.told_is n f i c is in
          let now : IsWorldKept (world_after_submit (Some f) w i c) nodes spares frames history ts longest = record {
            nodes_are = kept.nodes_are;
            many = kept.many;
            copies = kept.copies;
            copies_many = kept.copies_many;
            frames_are = kept.frames_are;
            history_is = kept.history_is;
            told_is = told;
            longest_is = kept.longest_is;
          } in
          tells (Issue i c) d here.world copy (subst IsEventCallWithinLimits event fits) (issue_is (Some f) is) refl now (events_are f is first)

      pub refusal_world : {after : Node A} → after ≡ n → IsEventCallWithinLimits e → IsWorld object p.group es (slice_set nodes m after) spares frames history ts longest
      refusal_world same fits =
          subst (λ ns. IsWorld object p.group es ns spares frames history ts longest) (sym (same_nodes here (same ∙ node_is here found)))
          (refused_world (submit_fault n) refl why fits)

      refused_to : {done : ℕ} (o : Option Fault) → submit_fault n ≡ o → MatchOption o (fault ≡ Memory) (λ first. fault ≡ first)
          → IsEventOutcome object (Issue i c) old (record { group = p.group; events = es; told = ts; done = done })
      refused_to {done} None is first =
          let q : WorldView A = record { group = p.group; events = es; told = ts; done = done } in
          subst (λ (r : WorldView A). IsEventOutcome object (Issue i c) r q) here.was (inr (inr (record {
            node = i;
            call = c;
            issues = refl;
            known = known here;
            taken = ap submit_fault (sym (node_is here found)) ∙ is;
            group = refl;
            events = out first;
            told = told_is first;
          })))
      refused_to (Some f) is first = is_done (Issue i c) d (ToldRefused i c (fault_number f) ∷ []) here.was copy (issue_is (Some f) is) refl
          (events_are f is first) (told_is first)

      pub refusal_goes : {done : ℕ} → IsEventOutcome object e old (record { group = p.group; events = es; told = ts; done = done })
      refusal_goes {done} = goes (record { group = p.group; events = es; told = ts; done = done }) (refused_to (submit_fault n) refl why)
