-- In every run whose issued calls keep the limits, a node has done exactly the calls that it has committed, except those that it
-- has from a snapshot. All answers that it gave are those of the session table before each call that it did, after all earlier
-- places of the one list.
use Rattle.std.proofs.Common.{◌≡◌, ℕ, ◌+◌, ◌≤◌, ◌==◌, Bool, true, false, List, [], ◌∷◌, ◌++◌, length}
use Rattle.std.proofs.Common.{fold, Option, Some, None, inl, inr, refl, ap, sym, ◌∙◌, subst}
use Rattle.std.proofs.Common.{arith, append_assoc, append-nil, length-append}
use Rattle.std.specs.List.{AllByRecursion as Each}
use Rattle.std.proofs.lemmas.Bool.{cond_both, eqb-true}
use Rattle.std.proofs.lemmas.List.Sums.{fold-append}
use Rattle.ring_base.specs.Prefixes.{prefix_whole}
use Rattle.ring_base.specs.Group.{Group}
use Rattle.ring_base.specs.Processors.{has}
use Rattle.ring_base.specs.declared.fault.Fault.{Fault}
use Rattle.ring_base.proofs.Each.{each-append}
use Rattle.ring_object.specs.Operations.{Sequential}
use Rattle.ring_payload.specs.declared.call.Call.{Call}
use Rattle.ring_core_spec.specs.State.{Transmission, frame_at}
use Rattle.ring_log.specs.KnownLog.{KnownLog, known_log_of}
use Rattle.ring_log.specs.EpochHistories.{committed_of}
use Rattle.ring_log.proofs.CommittedOf.{epochs_with_sends-kept}
use Rattle.ring_session.specs.Table.{Table, opening, table_next, table_after}
use Rattle.ring_session.specs.Tickets.{TicketCall, answers_after}
use Rattle.ring_session.specs.declared.ticket_answer.TicketAnswer.{TicketAnswer}
use Rattle.ring_session.proofs.AnswersGrow.{answers_after-push}
use Rattle.ring_node_spec.specs.Nodes.{Node, node_known_log, node_stopped}
use Rattle.ring_node_spec.specs.Stepping.{newly_committed, table_since, node_step, due_by_submit, submit_fault, node_after_submit}
use Rattle.ring_node_spec.specs.declared.input.Input.{Input}
use Rattle.ring_node_spec.specs.declared.input.Input.TheVariants.{Frame as FrameInput, Timeout as TimeInput}
use Rattle.ring_node_spec.specs.declared.event.Event.{Event}
use Rattle.ring_node_spec.specs.declared.event.Event.TheVariants.{Issue, Deliver, Noise, Timeout, Stop}
use Rattle.ring_node_spec.specs.Worlds.{World, world_opening, with_node, is_node, world_after_submit, world_after_submit_if_member, world_after_stop_if_member, world_after_input_if_member, world_after_receipt_if_sent, world_after_delivery, world_after_event, run}
use Rattle.ring_order_proof.specs.Done.{Span, places_in, done_in, answers_in, HasDone}
use Rattle.ring_order_proof.specs.Linear.{IsEventCallWithinLimits}
use Rattle.ring_order_proof.specs.RunEpochs.{whole_epochs_in}
use Rattle.ring_order_proof.proofs.CommittingSteps.{HasSoundEpochs, Moves, StillKnows, step-moves, commits}
use Rattle.ring_order_proof.proofs.OrderSteps.{AllKnow, whole-grows, still-know}
use Rattle.ring_order_proof.proofs.OrderedRuns.{steady, know, opening-none}
use Rattle.ring_order_proof.proofs.ConsistentRuns.{run-more, orderly, orderly-after, lives_on}
use Rattle.ring_order_proof.proofs.RestoredTables.{ComesBack}

-- One more span

places-more : {A : Type 0} (spans : List (Span A)) (s : Span A) → places_in (spans ++ s ∷ []) ≡ places_in spans ++ (s.restored ++ s.did)
places-more [] s = append-nil (s.restored ++ s.did)
places-more (r ∷ rest) s =
    ap (λ l. (r.restored ++ r.did) ++ l) (places-more rest s) ∙ sym (append_assoc (r.restored ++ r.did) (places_in rest) (s.restored ++ s.did))

done-more : {A : Type 0} (spans : List (Span A)) (s : Span A) → done_in (spans ++ s ∷ []) ≡ done_in spans ++ s.did
done-more [] s = append-nil s.did
done-more (r ∷ rest) s = ap (λ l. r.did ++ l) (done-more rest s) ∙ sym (append_assoc r.did (done_in rest) s.did)

module _ {O A : Type 0} (object : Sequential O) where
  abbrev after : Table O → List (Call A) → Table O
  after = fold (table_next object)

  answers-more : (table : Table O) (tickets : List (TicketCall A)) (done : List (Call A)) (spans : List (Span A)) (s : Span A)
      → answers_in object table tickets done (spans ++ s ∷ [])
      ≡ answers_in object table tickets done spans
      ++ answers_after object (after (after table (places_in spans)) s.restored) tickets (done ++ done_in spans) s.did
  answers-more table tickets done [] s =
      append-nil (answers_after object (after table s.restored) tickets done s.did)
      ∙ ap (λ d. answers_after object (after table s.restored) tickets d s.did) (sym (append-nil done))
  answers-more table tickets done (r ∷ rest) s =
      let first = answers_after object (after table r.restored) tickets done r.did in
      let next = after table (r.restored ++ r.did) in
      let others = answers_in object next tickets (done ++ r.did) rest in
      let last : Table O → List (Call A) → List (TicketAnswer A) = λ t d. answers_after object (after t s.restored) tickets d s.did in
      ap (λ l. first ++ l) (answers-more next tickets (done ++ r.did) rest s
      ∙ ap (λ t. others ++ last t ((done ++ r.did) ++ done_in rest)) (sym (fold-append (table_next object) table (r.restored ++ r.did) (places_in rest)))
      ∙ ap (λ d. others ++ last (after table (places_in (r ∷ rest))) d) (append_assoc done r.did (done_in rest)))
      ∙ sym (append_assoc first others (last (after table (places_in (r ∷ rest))) (done ++ done_in (r ∷ rest))))

  -- a new ticket has no answer yet
  answers-push : (table : Table O) (ts : List (TicketCall A)) (t : TicketCall A) (done : List (Call A)) (spans : List (Span A))
      → length done + length (done_in spans) ≤ t.since → answers_in object table (ts ++ t ∷ []) done spans ≡ answers_in object table ts done spans
  answers-push table ts t done [] late = refl
  answers-push table ts t done (s ∷ rest) late =
      let next = after table (s.restored ++ s.did) in
      let one = length-append s.did (done_in rest) in
      let two = length-append done s.did in
      ap (λ l. l ++ answers_in object next (ts ++ t ∷ []) (done ++ s.did) rest)
      (answers_after-push object (after table s.restored) ts t done s.did (omega (arith, late, one)))
      ∙ ap (λ l. answers_after object (after table s.restored) ts done s.did ++ l)
      (answers-push next ts t (done ++ s.did) rest (omega (arith, late, one, two)))

  -- One node

  -- nothing changed in what a node did and in its known log
  record IsSame (n new : Node A) : Type 0 where
    kept : node_known_log new ≡ node_known_log n
    done : new.done ≡ n.done
    answers : new.answers ≡ n.answers
    tickets : new.tickets ≡ n.tickets

  same-whole : (n new : Node A) (whole whole' : List (Call A)) → StillKnows object n new whole whole' → node_known_log new ≡ node_known_log n → whole ≡ whole'
  same-whole n new whole whole' g e =
      prefix_whole whole whole' g.grows (omega (arith, g.before.committed, g.after.committed, ap (λ (k : KnownLog A). k.committed) e))

  same-done : (n new : Node A) (whole whole' : List (Call A)) → StillKnows object n new whole whole' → IsSame n new → HasDone object n whole
      → HasDone object new whole'
  same-done n new whole whole' g s h =
      let same = same-whole n new whole whole' g s.kept in
      record {
        spans = h.spans;
        places = h.places ∙ same;
        done = h.done ∙ sym s.done;
        answers = ap (λ ts. answers_in object (opening object.initial) ts [] h.spans) s.tickets ∙ h.answers ∙ sym s.answers;
        all = λ none. s.done ∙ h.all (sym (ap (λ (k : KnownLog A). k.from) s.kept) ∙ none) ∙ same;
      }

  moved-done : (n : Node A) (input : Input A) (whole whole' : List (Call A)) → StillKnows object n (node_step object n input).node whole whole'
      → Moves object n (node_step object n input) → HasDone object n whole → HasDone object (node_step object n input).node whole'
  moved-done n input whole whole' g m h =
      let s = node_step object n input in
      let old = node_known_log n in
      let c = commits object n s.node whole whole' m.known m.goes m.dropped g in
      let more = newly_committed old m.known in
      let span : Span A = record { restored = c.grows.0; did = more } in
      let start : Table O = opening object.initial in
      let table : after (after start (places_in h.spans)) c.grows.0 ≡ table_since object old m.known =
      ap (λ l. after (after start l) c.grows.0) h.places ∙ sym (fold-append (table_next object) start whole c.grows.0)
      ∙ ap (table_after object) c.grows.1 ∙ sym c.since in
      let given : answers_after object (after (after start (places_in h.spans)) c.grows.0) n.tickets (done_in h.spans) more ≡ s.answers =
      ap (λ t. answers_after object t n.tickets (done_in h.spans) more) table
      ∙ ap (λ d. answers_after object (table_since object old m.known) n.tickets d more) h.done ∙ sym m.answers in
      record {
        spans = h.spans ++ span ∷ [];
        places = places-more h.spans span ∙ ap (λ l. l ++ (c.grows.0 ++ more)) h.places ∙ sym (append_assoc whole c.grows.0 more)
            ∙ ap (λ l. l ++ more) c.grows.1 ∙ c.parts;
        done = done-more h.spans span ∙ ap (λ l. l ++ more) h.done ∙ sym m.done;
        answers = ap (λ ts. answers_in object start ts [] (h.spans ++ span ∷ [])) m.tickets
            ∙ answers-more start n.tickets [] h.spans span
            ∙ ap (λ l. l ++ answers_after object (after (after start (places_in h.spans)) c.grows.0) n.tickets (done_in h.spans) more) h.answers
            ∙ ap (λ l. n.answers ++ l) given ∙ sym m.given;
        all = λ none.
            let p = c.plain (sym m.dropped.from ∙ none) in
            m.done ∙ ap (λ l. l ++ more) (h.all p.1) ∙ ap (λ l. l ++ more) (sym p.0) ∙ c.parts;
      }

  step-done : (n : Node A) (input : Input A) (whole whole' : List (Call A)) → HasSoundEpochs n → StillKnows object n (node_step object n input).node whole whole'
      → HasDone object n whole → HasDone object (node_step object n input).node whole'
  step-done n input whole whole' k g h =
      let new = (node_step object n input).node in
      elim (step-moves object n input k) as (λ _. HasDone object new whole') [
        | inl r ↦
            let kept : node_known_log new ≡ node_known_log n = ap (λ group. known_log_of group new.epochs) r.group ∙ ap (known_log_of n.group) r.epochs in
            same-done n new whole whole' g (record { kept = kept; done = r.done; answers = r.given; tickets = r.tickets }) h
        | inr m ↦ moved-done n input whole whole' g m h
      ]

  submit-done : (n : Node A) (c : Call A) (whole whole' : List (Call A)) → StillKnows object n (node_after_submit n c) whole whole' → HasDone object n whole
      → HasDone object (node_after_submit n c) whole'
  submit-done n c whole whole' g h =
      let t : TicketCall A = record { call = c; since = length n.done } in
      let kept : node_known_log (node_after_submit n c) ≡ node_known_log n = epochs_with_sends-kept n.group (due_by_submit n c) n.epochs in
      let same = same-whole n (node_after_submit n c) whole whole' g kept in
      let long = ap length h.done in
      record {
        spans = h.spans;
        places = h.places ∙ same;
        done = h.done;
        answers = answers-push (opening object.initial) n.tickets t [] h.spans (omega (arith, long)) ∙ h.answers;
        all = λ none. h.all (sym (ap (λ (k : KnownLog A). k.from) kept) ∙ none) ∙ same;
      }

  -- All nodes

  module _ (group : Group) where
    abbrev CompleteExchange : World A → ℕ → List (Call A)
    CompleteExchange w i = committed_of group (whole_epochs_in w i)

    abbrev AllDone : World A → Type 0
    AllDone w = (i : ℕ) → 1 ≤ i → i ≤ group.count → HasDone object (w.nodes i) (CompleteExchange w i)

    abbrev AllStill : World A → World A → Type 0
    AllStill w w' = (i : ℕ) → 1 ≤ i → i ≤ group.count → StillKnows object (w.nodes i) (w'.nodes i) (CompleteExchange w i) (CompleteExchange w' i)

    -- replacing one node's value
    put-done : (nodes : ℕ → Node A) (whole whole' : ℕ → List (Call A)) (i : ℕ) (new : Node A)
        → ((j : ℕ) → 1 ≤ j → j ≤ group.count → StillKnows object (nodes j) (with_node nodes i new j) (whole j) (whole' j))
        → (StillKnows object (nodes i) new (whole i) (whole' i) → HasDone object (nodes i) (whole i) → HasDone object new (whole' i))
        → ((j : ℕ) → 1 ≤ j → j ≤ group.count → HasDone object (nodes j) (whole j))
        → (j : ℕ) → 1 ≤ j → j ≤ group.count → HasDone object (with_node nodes i new j) (whole' j)
    put-done nodes whole whole' i new still step all j low high =
        cond_both (j == i) new (nodes j) (λ (m : Node A). StillKnows object (nodes j) m (whole j) (whole' j) → HasDone object m (whole' j))
        (λ e k. subst (λ q. StillKnows object (nodes q) new (whole q) (whole' q) → HasDone object (nodes q) (whole q) → HasDone object new (whole' q))
        (sym (eqb-true j i e)) step k (all j low high))
        (λ f k. same-done (nodes j) (nodes j) (whole j) (whole' j) k (record { kept = refl; done = refl; answers = refl; tickets = refl }) (all j low high))
        (still j low high)

    module _ (w : World A) (steady : (i : ℕ) → HasSoundEpochs (w.nodes i)) (all : AllDone w) where
      steps-done : (b : Bool) (i : ℕ) (input : Input A) → AllStill w (world_after_input_if_member object b w i input) → AllDone (world_after_input_if_member object b w i input)
      steps-done false i input still = all
      steps-done true i input still =
          let w' = world_after_input_if_member object true w i input in
          put-done w.nodes (CompleteExchange w) (CompleteExchange w') i (node_step object (w.nodes i) input).node still
          (step-done (w.nodes i) input (CompleteExchange w i) (CompleteExchange w' i) (steady i)) all

      issued-done : (o : Option Fault) (i : ℕ) (c : Call A) → AllStill w (world_after_submit o w i c) → AllDone (world_after_submit o w i c)
      issued-done (Some fault) i c still = all
      issued-done None i c still =
          let w' = world_after_submit None w i c in
          put-done w.nodes (CompleteExchange w) (CompleteExchange w') i (node_after_submit (w.nodes i) c) still (submit-done (w.nodes i) c (CompleteExchange w i) (CompleteExchange w' i)) all

      issue-done : (b : Bool) (i : ℕ) (c : Call A) → AllStill w (world_after_submit_if_member b w i c) → AllDone (world_after_submit_if_member b w i c)
      issue-done false i c still = all
      issue-done true i c still = issued-done (submit_fault (w.nodes i)) i c still

      stop-done : (b : Bool) (i : ℕ) → AllStill w (world_after_stop_if_member b w i) → AllDone (world_after_stop_if_member b w i)
      stop-done false i still = all
      stop-done true i still =
          let w' = world_after_stop_if_member true w i in
          put-done w.nodes (CompleteExchange w) (CompleteExchange w') i (node_stopped (w.nodes i)) still
          (λ k h. same-done (w.nodes i) (node_stopped (w.nodes i)) (CompleteExchange w i) (CompleteExchange w' i) k
          (record { kept = refl; done = refl; answers = refl; tickets = refl }) h) all

      frame-done : (b : Bool) (f : Transmission A) (i : ℕ) → AllStill w (world_after_receipt_if_sent object b w i f.frame) → AllDone (world_after_receipt_if_sent object b w i f.frame)
      frame-done false f i still = all
      frame-done true f i still = steps-done (is_node w i) i (FrameInput f.frame) still

      world_after_delivery-done : (o : Option (Transmission A)) (i : ℕ) → AllStill w (world_after_delivery object w i o) → AllDone (world_after_delivery object w i o)
      world_after_delivery-done None i still = all
      world_after_delivery-done (Some f) i still = frame-done (has f.to i) f i still

      event-done : (e : Event A) → AllStill w (world_after_event object w e) → AllDone (world_after_event object w e)
      event-done (Issue i c) still = issue-done (is_node w i) i c still
      event-done (Deliver i n) still = world_after_delivery-done (frame_at w.frames n) i still
      event-done (Noise i bytes) still = all
      event-done (Timeout i kind) still = steps-done (is_node w i) i (TimeInput kind) still
      event-done (Stop i) still = stop-done (is_node w i) i still

    module _ (few : group.count ≤ 16) (back : ComesBack object A) where
      abbrev at : List (Event A) → World A
      at events = run object (world_opening group) events

      next-still : (before : List (Event A)) (e : Event A) → Each IsEventCallWithinLimits before → Each IsEventCallWithinLimits (before ++ e ∷ [])
          → AllStill (at before) (world_after_event object (at before) e)
      next-still before e limits more =
          let w = at before in
          let w' = world_after_event object w e in
          let know' = subst (λ (x : World A). AllKnow object group x) (run-more object (world_opening group) before e)
          (know object group few back (before ++ e ∷ []) more) in
          still-know object group w w' (know object group few back before limits) know'
          (whole-grows group w w' (orderly object group few before) (orderly-after object group few before e) (lives_on object group few before (e ∷ [])))

      run-done : (before later : List (Event A)) → Each IsEventCallWithinLimits before → Each IsEventCallWithinLimits later → AllDone (at before) → AllDone (run object (at before) later)
      run-done before [] limits more all = all
      run-done before (e ∷ later) limits more all =
          let w = world_after_event object (at before) e in
          let next = each-append IsEventCallWithinLimits before (e ∷ []) limits (more.0, tt) in
          let now : AllDone w = event-done (at before) (steady object group few before) all e (next-still before e limits next) in
          let same = run-more object (world_opening group) before e in
          subst (λ (x : World A). AllDone (run object x later)) same
          (run-done (before ++ e ∷ []) later next more.1 (subst (λ (x : World A). AllDone x) (sym same) now))

      opens : AllDone (world_opening group)
      opens i low high =
          let none = sym (opening-none group i) in
          record { spans = []; places = none; done = refl; answers = refl; all = λ e. none }

      pub all_done : (events : List (Event A)) → Each IsEventCallWithinLimits events → AllDone (at events)
      all_done events limits = run-done [] events tt limits opens
