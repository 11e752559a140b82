-- A book run is the run of its lines' events.
use Rattle.std.proofs.Common.{◌≡◌, ℕ, ◌≤◌, ◌++◌, ◌==◌, Bool, true, false, List, [], ◌∷◌, length, take}
use Rattle.std.proofs.Common.{Option, None, Some, refl, inl, inr, ap, subst, sym, ◌∙◌, arith, append-nil, append_assoc, eq-eqb}
use Rattle.std.specs.Prelude.{IsSomeAnd}
use Rattle.std.specs.List.{AllByRecursion as Each}
use Rattle.std.proofs.lemmas.Bool.{cases_Bool, eqb-true, cond-true, cond-false, and_from, le-leb}
use Rattle.std.proofs.lemmas.Bool.Decides.{nat_tests}
use Rattle.std.proofs.lemmas.List.{map-append}
use Rattle.ring_base.specs.Group.{Group}
use Rattle.ring_base.specs.Processors.{has}
use Rattle.ring_base.specs.declared.fault.Fault.{Fault}
use Rattle.ring_object.specs.Operations.{Sequential}
use Rattle.ring_payload.specs.declared.call.Call.{Call}
use Rattle.ring_session.specs.Deduplicated.{deduplicated}
use Rattle.ring_session.specs.declared.answer.Answer.{Answer}
use Rattle.ring_wire.specs.declared.frame.Frame.{Frame}
use Rattle.ring_core_spec.specs.State.{Transmission, frame_at}
use Rattle.ring_session.specs.Tickets.{TicketCall, ticket_calls}
use Rattle.ring_session.specs.declared.ticket_answer.TicketAnswer.{TicketAnswer}
use Rattle.ring_node_spec.specs.declared.input.Input.{Input}
use Rattle.ring_node_spec.specs.declared.input.Input.TheVariants.{Frame as Comes, Noise, Timeout, Stop}
use Rattle.ring_node_spec.specs.Nodes.{Node, node_known_log, node_opening, node_stopped}
use Rattle.ring_node_spec.specs.Stepping.{NodeStepResult, node_step, submit_fault, node_after_submit}
use Rattle.ring_node_spec.specs.WorldLimits.{EventFits}
use Rattle.ring_node_spec.specs.Worlds.{World, world_opening, with_node, is_node, carried_frames, reply_items_of, calls_past, after_step, world_after_submit, world_after_submit_if_member}
use Rattle.ring_node_spec.specs.Worlds.{world_after_stop_if_member, world_after_input_if_member, world_after_receipt_if_sent, world_after_delivery, world_after_event, run}
use Rattle.ring_node_spec.proofs.NodeChanges.{no_calls_past}
use Rattle.ring_order_proof.specs.Linear.{IsEventCallWithinLimits}
use Rattle.ring_book_lines.specs.declared.frame_ref.FrameRef.{FrameRef}
use Rattle.ring_book_lines.specs.declared.input.LineInput.{LineInput}
use Rattle.ring_book_lines.specs.declared.input.LineInput.TheVariants.{Submitted, Received}
use Rattle.ring_book_lines.specs.Answers.{answers_after_step, answers_after_steps, answers_of_node}
use Rattle.ring_book_lines.specs.Events.{answers_of, frames_of, frame_number, event_of, events_after}
use Rattle.ring_book_lines.specs.Events.{events_of, items_in, history_of, IsDone, AreDone, IsRun}
use Rattle.ring_book_lines.specs.Lines.{steps_of, IsDeliverable}
use Rattle.ring_book_lines.specs.Logs.{places_after, committed_places_of}
use Rattle.ring_book_lines.specs.Machines.{Machine, node_machine}
use Rattle.ring_book_lines.specs.Orders.{call_in, calls_of}
use Rattle.ring_book_lines.specs.Runs.{LineFits, IsLineOfStep, IsStep, LeadsToState, AreDeliverable, IsInside, IsBookRun}
use Rattle.ring_book_lines.specs.Steps.{StepView, LineView}
use Rattle.ring_book_lines.proofs.Given.{HasOwn, step-adds, answers_of-stepped, answers_of-submitted, own-stepped, own-submitted}
use Rattle.ring_order_proof.proofs.LongestCommitted.{history_opening_of-known, within-longest, taken-longest, order-longest}
use Rattle.ring_order_proof.proofs.ConsistentRuns.{run-more}
use Rattle.ring_book_lines.proofs.Leading.{leads_one, steps_of-own, steps_of-other, steps_of-first, steps_of-skip}
use Rattle.ring_book_lines.proofs.Logging.{IsLogged, logged-next}
use Rattle.ring_book_lines.proofs.FramesInLines.{number_stands}
use Rattle.ring_book_lines.proofs.AnswersByTicket.{answers_after_steps-snoc}

-- ---- lists of lines with one more

frames_of-snoc : {A : Type 0} (ls : List (LineView A)) (l : LineView A) → frames_of (ls ++ l ∷ []) ≡ frames_of ls ++ carried_frames l.step.node l.step.frames
frames_of-snoc [] l = append-nil (carried_frames l.step.node l.step.frames)
frames_of-snoc (x ∷ ls) l = ap (λ ys. carried_frames x.step.node x.step.frames ++ ys) (frames_of-snoc ls l)
    ∙ sym (append_assoc (carried_frames x.step.node x.step.frames) (frames_of ls) (carried_frames l.step.node l.step.frames))

history_of-snoc : {A : Type 0} (ls : List (LineView A)) (l : LineView A) → history_of (ls ++ l ∷ []) ≡ history_of ls ++ items_in l.step.input l.step.answers
history_of-snoc [] l = append-nil (items_in l.step.input l.step.answers)
history_of-snoc (x ∷ ls) l = ap (λ ys. items_in x.step.input x.step.answers ++ ys) (history_of-snoc ls l)
    ∙ sym (append_assoc (items_in x.step.input x.step.answers) (history_of ls) (items_in l.step.input l.step.answers))

calls_of-snoc : {A : Type 0} (ss : List (StepView A)) (s : StepView A) → calls_of (ss ++ s ∷ []) ≡ calls_of ss ++ call_in s.input
calls_of-snoc [] s = append-nil (call_in s.input)
calls_of-snoc (x ∷ ss) s = ap (λ ys. call_in x.input ++ ys) (calls_of-snoc ss s) ∙ sym (append_assoc (call_in x.input) (calls_of ss) (call_in s.input))

places_after-snoc : {A : Type 0} (places : ℕ) (ss : List (StepView A)) (s : StepView A) → places_after places (ss ++ s ∷ []) ≡ s.committed
places_after-snoc places [] s = refl
places_after-snoc places (x ∷ ss) s = places_after-snoc x.committed ss s

after-snoc : {A : Type 0} (before ls : List (LineView A)) (l : LineView A)
    → events_after before (ls ++ l ∷ []) ≡ events_after before ls ++ event_of (before ++ ls) l.step.node l.step.input ∷ []
after-snoc before [] l = ap (λ (xs : List (LineView _)). event_of xs l.step.node l.step.input ∷ []) (sym (append-nil before))
after-snoc before (x ∷ ls) l =
    ap (λ es. event_of before x.step.node x.step.input ∷ es)
    (after-snoc (before ++ x ∷ []) ls l
    ∙ ap (λ (xs : List (LineView _)). events_after (before ++ x ∷ []) ls ++ event_of xs l.step.node l.step.input ∷ []) (append_assoc before (x ∷ []) ls))

-- the input is within the limits
event-fits : {A : Type 0} (before : List (LineView A)) (node : ℕ) (input : LineInput A) → LineFits input → EventFits (event_of before node input)
event-fits before node (Submitted c) h = h.fits
event-fits before node (Received (Comes f) at) h = tt
event-fits before node (Received Noise at) h = tt
event-fits before node (Received (Timeout kind) at) h = tt
event-fits before node (Received Stop at) h = tt

event-keeps : {A : Type 0} (before : List (LineView A)) (node : ℕ) (input : LineInput A) → LineFits input → IsEventCallWithinLimits (event_of before node input)
event-keeps before node (Submitted c) h = h
event-keeps before node (Received (Comes f) at) h = tt
event-keeps before node (Received Noise at) h = tt
event-keeps before node (Received (Timeout kind) at) h = tt
event-keeps before node (Received Stop at) h = tt

module _ {O A : Type 0} (object : Sequential O) (group : Group) where
  abbrev machine : Machine (Node A) A
  machine = node_machine object group

  -- ---- one line

  -- the effect of a line on the world
  pub record IsNext (w after : World A) (node : ℕ) (input : LineInput A) (l : StepView A) (u : Node A) : Type 0 where
    pub group_is : after.group ≡ w.group
    pub own : after.nodes node ≡ u
    pub others : (i : ℕ) → (i == node) ≡ false → after.nodes i ≡ w.nodes i
    pub frames : after.frames ≡ w.frames ++ carried_frames node l.frames
    pub history : after.history ≡ w.history ++ items_in input l.answers
    pub longest : after.longest ≡ w.longest ++ calls_past (length w.longest) (node_known_log u).committed l.calls

  put-own : (w : World A) (node : ℕ) (n : Node A) → with_node w.nodes node n node ≡ n
  put-own w node n = cond-true (node == node) n (w.nodes node) (eq-eqb node node refl)

  put-other : (w : World A) (node : ℕ) (n : Node A) (i : ℕ) → (i == node) ≡ false → with_node w.nodes node n i ≡ w.nodes i
  put-other w node n i e = cond-false (i == node) n (w.nodes i) e

  abbrev issued_in : World A → ℕ → Call A → World A
  issued_in w node c = world_after_submit None w node c

  next_issued : (w after : World A) (node : ℕ) (c : Call A) (l : StepView A) (u : Node A) → after ≡ issued_in w node c → u ≡ node_after_submit (w.nodes node) c
      → l.frames ≡ [] → l.calls ≡ [] → IsNext w after node (Submitted c) l u
  next_issued w after node c l u e new none same = record {
    group_is = ap (λ x. x.group) e;
    own = ap (λ (x : World A). x.nodes node) e ∙ (put-own w node (node_after_submit (w.nodes node) c) ∙ sym new);
    others = λ i apart. ap (λ (x : World A). x.nodes i) e ∙ put-other w node (node_after_submit (w.nodes node) c) i apart;
    frames = ap (λ x. x.frames) e ∙ (sym (append-nil w.frames) ∙ ap (λ fs. w.frames ++ carried_frames node fs) (sym none));
    history = ap (λ x. x.history) e;
    longest = ap (λ x. x.longest) e ∙ sym (no_calls_past w.longest (node_known_log u).committed l.calls same);
  }

  next_done : (w after : World A) (node : ℕ) (input : Input A) (at : FrameRef) (l : StepView A) (u : Node A) (d : NodeStepResult A) → after.group ≡ w.group
      → after.nodes ≡ with_node w.nodes node d.node → after.frames ≡ w.frames ++ carried_frames node d.sends → after.history ≡ w.history ++ reply_items_of d.answers
      → after.longest ≡ w.longest ++ calls_past (length w.longest) (node_known_log d.node).committed d.committed
      → u ≡ d.node → l.frames ≡ d.sends → l.answers ≡ d.answers → l.calls ≡ d.committed → IsNext w after node (Received input at) l u
  next_done w after node input at l u d same nodes frames history longest new sent told calls = record {
    group_is = same;
    own = ap (λ (f : ℕ → Node A). f node) nodes ∙ (put-own w node d.node ∙ sym new);
    others = λ i apart. ap (λ (f : ℕ → Node A). f i) nodes ∙ put-other w node d.node i apart;
    frames = frames ∙ ap (λ fs. w.frames ++ carried_frames node fs) (sym sent);
    history = history ∙ ap (λ (as' : List _). w.history ++ reply_items_of as') (sym told);
    longest = longest
        ∙ (ap (λ (n : Node A). w.longest ++ calls_past (length w.longest) (node_known_log n).committed d.committed) (sym new)
        ∙ ap (λ (cs : List (Call A)). w.longest ++ calls_past (length w.longest) (node_known_log u).committed cs) (sym calls));
  }

  -- the delivered frame was sent in the world
  comes : (o : Option (Transmission A)) (w : World A) (node : ℕ) (f : Frame A) (s : Transmission A) → o ≡ Some s → s.frame ≡ f → has s.to node ≡ true
      → is_node w node ≡ true
      → (world_after_delivery object w node o ≡ after_step w node (node_step object (w.nodes node) (Comes f)))
      × IsSomeAnd o (λ (x : Transmission A). (x.frame ≡ f) × (has x.to node ≡ true))
  comes None w node f s e is to known = absurd cc
  comes (Some x) w node f s e is to known =
      let one : x ≡ s = cc in
      let frame : x.frame ≡ f = ap (λ (y : Transmission A). y.frame) one ∙ is in
      let goes : has x.to node ≡ true = ap (λ (y : Transmission A). has y.to node) one ∙ to in (
        ap (λ (b : Bool). world_after_receipt_if_sent object b w node x.frame) goes ∙ (ap (λ (b : Bool). world_after_input_if_member object b w node (Comes x.frame)) known
            ∙ ap (λ (g : Frame A). after_step w node (node_step object (w.nodes node) (Comes g))) frame),
        (frame, goes),
      )

  issues : (o : Option Fault) (w : World A) (node : ℕ) (c : Call A) → o ≡ None → world_after_submit o w node c ≡ issued_in w node c
  issues None w node c e = refl
  issues (Some fault) w node c e = absurd cc

  pub record Follows (w : World A) (before : List (LineView A)) (node : ℕ) (input : LineInput A) (l : StepView A) (u : Node A) : Type 0 where
    pub done : IsDone object w before node input l
    pub next : IsNext w (world_after_event object w (event_of before node input)) node input l u

  -- a line of a book run is a line of the run
  follows : (w : World A) (before : List (LineView A)) (node : ℕ) (input : LineInput A) (l : StepView A) (u : Node A) → is_node w node ≡ true
      → w.frames ≡ frames_of before
      → IsLineOfStep machine (w.nodes node) input l u → IsDeliverable before node input → Follows w before node input l u
  follows w before node (Submitted c) l u known e made found = record {
    done = (made.0, made.2, made.3, made.4);
    next = next_issued w (world_after_event object w (event_of before node (Submitted c))) node c l u
        (ap (λ (b : Bool). world_after_submit_if_member b w node c) known ∙ issues (submit_fault (w.nodes node)) w node c made.0) made.1 made.2 made.4;
  }
  follows w before node (Received (Comes f) at) l u known e made found =
      let d = node_step object (w.nodes node) (Comes f) in
      let t = number_stands before at node f found in
      let at_there : frame_at w.frames (frame_number before at) ≡ Some t.0 = ap (λ (fs : List (Transmission A)). frame_at fs (frame_number before at)) e ∙ t.1.0 in
      let c = comes (frame_at w.frames (frame_number before at)) w node f t.0 at_there t.1.1.0 t.1.1.1 known in
      record {
        done = (made.0, made.2, made.3, made.4, c.1);
        next = next_done w (world_after_event object w (event_of before node (Received (Comes f) at))) node (Comes f) at l u d
            (ap (λ (x : World A). x.group) c.0) (ap (λ (x : World A). x.nodes) c.0) (ap (λ (x : World A). x.frames) c.0) (ap (λ (x : World A). x.history) c.0)
            (ap (λ (x : World A). x.longest) c.0) made.1 made.2 made.3 made.4;
      }
  follows w before node (Received Noise at) l u known e made found = record {
    done = (made.0, made.2, made.3, made.4, tt);
    next = record {
      group_is = refl;
      own = sym made.1;
      others = λ i apart. refl;
      frames = sym (append-nil w.frames) ∙ ap (λ fs. w.frames ++ carried_frames node fs) (sym made.2);
      history = sym (append-nil w.history) ∙ ap (λ (as' : List (TicketAnswer A)). w.history ++ reply_items_of as') (sym made.3);
      longest = sym (no_calls_past w.longest (node_known_log u).committed l.calls made.4);
    };
  }
  follows w before node (Received (Timeout kind) at) l u known e made found =
      let d = node_step object (w.nodes node) (Timeout kind) in
      let is : world_after_event object w (event_of before node (Received (Timeout kind) at)) ≡ after_step w node d =
      ap (λ (b : Bool). world_after_input_if_member object b w node (Timeout kind)) known in
      record {
        done = (made.0, made.2, made.3, made.4, tt);
        next = next_done w (world_after_event object w (event_of before node (Received (Timeout kind) at))) node (Timeout kind) at l u d
            (ap (λ (x : World A). x.group) is) (ap (λ (x : World A). x.nodes) is) (ap (λ (x : World A). x.frames) is) (ap (λ (x : World A). x.history) is)
            (ap (λ (x : World A). x.longest) is) made.1 made.2 made.3 made.4;
      }
  follows w before node (Received Stop at) l u known e made found =
      let n = node_stopped (w.nodes node) in
      let is : world_after_event object w (event_of before node (Received Stop at)) ≡ record w { nodes = with_node w.nodes node n } =
      ap (λ (b : Bool). world_after_stop_if_member b w node) known in
      record {
        done = (made.0, made.2, made.3, made.4, tt);
        next = next_done w (world_after_event object w (event_of before node (Received Stop at))) node Stop at l u (node_step object (w.nodes node) Stop)
            (ap (λ (x : World A). x.group) is) (ap (λ (x : World A). x.nodes) is) (ap (λ (x : World A). x.frames) is ∙ sym (append-nil w.frames))
            (ap (λ (x : World A). x.history) is ∙ sym (append-nil w.history))
            (ap (λ (x : World A). x.longest) is ∙ sym (no_calls_past w.longest (node_known_log n).committed [] refl)) made.1 made.2 made.3 made.4;
      }

  -- ---- the world after the lines

  pub record Says (w : World A) (before : List (LineView A)) : Type 0 where
    pub group_is : w.group ≡ group
    pub frames : w.frames ≡ frames_of before
    pub history : w.history ≡ history_of before
    pub calls : (i : ℕ) → ticket_calls (w.nodes i).tickets ≡ calls_of (steps_of i before)
    pub answers : (i : ℕ) → answers_of (w.nodes i) ≡ answers_of_node i before
    pub own : (i : ℕ) → HasOwn (w.nodes i)
    pub committed : (i : ℕ) → (node_known_log (w.nodes i)).committed ≡ committed_places_of i before
    pub logged : IsLogged before w.longest

  -- the effect of a step on a node's calls and answers
  record Makes3 (n u : Node A) (input : LineInput A) (l : StepView A) : Type 0 where
    calls : ticket_calls u.tickets ≡ ticket_calls n.tickets ++ call_in input
    answers : answers_of u ≡ answers_after_step (answers_of n) input l.answers
    own : HasOwn u

  makes3 : (n u : Node A) (input : LineInput A) (l : StepView A) → IsLineOfStep machine n input l u → HasOwn n → Makes3 n u input l
  makes3 n u (Submitted c) l made own = record {
    calls = ap (λ (x : Node A). ticket_calls x.tickets) made.1
        ∙ map-append (λ (t : TicketCall A). t.call) n.tickets (record { call = c; since = length n.done } ∷ []);
    answers = ap (λ (x : Node A). answers_of x) made.1 ∙ answers_of-submitted n c own;
    own = subst (λ (x : Node A). HasOwn x) (sym made.1) (own-submitted n c own);
  }
  makes3 n u (Received input at) l made own =
      let d = node_step object n input in
      let adds = step-adds object n input in
      record {
        calls = ap (λ (x : Node A). ticket_calls x.tickets) made.1 ∙ (ap ticket_calls adds.tickets ∙ sym (append-nil (ticket_calls n.tickets)));
        answers = ap (λ (x : Node A). answers_of x) made.1
            ∙ (answers_of-stepped n d adds ∙ ap (λ (as' : List (TicketAnswer A)). answers_after_step (answers_of n) (Received input at) as') (sym made.3));
        own = subst (λ (x : Node A). HasOwn x) (sym made.1) (own-stepped n d adds own);
      }

  -- after one more line, whose node has committed no more than there is
  says-next : (w after : World A) (before : List (LineView A)) (l : LineView A) (u : Node A) → Says w before
      → IsStep machine (w.nodes l.step.node) l.step u → IsNext w after l.step.node l.step.input l.step u
      → (node_known_log (after.nodes l.step.node)).committed ≤ length after.longest → Says after (before ++ l ∷ [])
  says-next w after before l u says step next within =
      let node = l.step.node in
      let m = makes3 (w.nodes node) u l.step.input l.step step.makes (says.own node) in
      record {
        group_is = next.group_is ∙ says.group_is;
        frames = next.frames ∙ (ap (λ xs. xs ++ carried_frames node l.step.frames) says.frames ∙ sym (frames_of-snoc before l));
        history = next.history ∙ (ap (λ xs. xs ++ items_in l.step.input l.step.answers) says.history ∙ sym (history_of-snoc before l));
        calls = λ i. elim (cases_Bool (i == node)) [
          | inl t ↦ own-calls i (eqb-true i node t) m
          | inr f ↦ ap (λ (x : Node A). ticket_calls x.tickets) (next.others i f)
              ∙ (says.calls i ∙ sym (ap calls_of (steps_of-other i before l (apart-sym i node f))))
        ];
        answers = λ i. elim (cases_Bool (i == node)) [
          | inl t ↦ own-answers i (eqb-true i node t) m
          | inr f ↦ ap (λ (x : Node A). answers_of x) (next.others i f)
              ∙ (says.answers i ∙ sym (ap (answers_after_steps []) (steps_of-other i before l (apart-sym i node f))))
        ];
        own = λ i. elim (cases_Bool (i == node)) [
          | inl t ↦ subst (λ k. HasOwn (after.nodes k)) (sym (eqb-true i node t)) (subst (λ (x : Node A). HasOwn x) (sym next.own) m.own)
          | inr f ↦ subst (λ (x : Node A). HasOwn x) (sym (next.others i f)) (says.own i)
        ];
        committed = λ i. elim (cases_Bool (i == node)) [
          | inl t ↦ own-committed i (eqb-true i node t)
          | inr f ↦ ap (λ (x : Node A). (node_known_log x).committed) (next.others i f)
              ∙ (says.committed i ∙ sym (ap (places_after 0) (steps_of-other i before l (apart-sym i node f))))
        ];
        logged = subst (IsLogged (before ++ l ∷ [])) (sym longer_list) (logged-next before l w.longest says.logged
            (omega (arith, within, step.committed, ap (λ (x : Node A). (node_known_log x).committed) next.own, ap length longer_list)));
      }
    where
      apart-sym : (i node : ℕ) → (i == node) ≡ false → (node == i) ≡ false
      apart-sym i node f = grind (arith, nat_tests, f)

      own-calls : (i : ℕ) → i ≡ l.step.node → Makes3 (w.nodes l.step.node) u l.step.input l.step
          → ticket_calls (after.nodes i).tickets ≡ calls_of (steps_of i (before ++ l ∷ []))
      own-calls i e m =
          ap (λ (k : ℕ). ticket_calls (after.nodes k).tickets) e
          ∙ (ap (λ (x : Node A). ticket_calls x.tickets) next.own ∙ (m.calls ∙ (ap (λ xs. xs ++ call_in l.step.input) (says.calls l.step.node)
          ∙ (sym (calls_of-snoc (steps_of l.step.node before) l.step) ∙ (sym (ap calls_of (steps_of-own l.step.node before l refl))
          ∙ ap (λ (k : ℕ). calls_of (steps_of k (before ++ l ∷ []))) (sym e))))))

      own-answers : (i : ℕ) → i ≡ l.step.node → Makes3 (w.nodes l.step.node) u l.step.input l.step
          → answers_of (after.nodes i) ≡ answers_of_node i (before ++ l ∷ [])
      own-answers i e m =
          ap (λ (k : ℕ). answers_of (after.nodes k)) e
          ∙ (ap (λ (x : Node A). answers_of x) next.own
          ∙ (m.answers ∙ (ap (λ (xs : List (Option Answer)). answers_after_step xs l.step.input l.step.answers) (says.answers l.step.node)
          ∙ (sym (answers_after_steps-snoc [] (steps_of l.step.node before) l.step) ∙ (sym (ap (answers_after_steps []) (steps_of-own l.step.node before l refl))
          ∙ ap (λ (k : ℕ). answers_of_node k (before ++ l ∷ [])) (sym e))))))

      own-committed : (i : ℕ) → i ≡ l.step.node → (node_known_log (after.nodes i)).committed ≡ committed_places_of i (before ++ l ∷ [])
      own-committed i e =
          ap (λ (k : ℕ). (node_known_log (after.nodes k)).committed) e
          ∙ (ap (λ (x : Node A). (node_known_log x).committed) next.own
          ∙ (sym step.committed ∙ (sym (places_after-snoc 0 (steps_of l.step.node before) l.step)
          ∙ (sym (ap (places_after 0) (steps_of-own l.step.node before l refl)) ∙ ap (λ (k : ℕ). committed_places_of k (before ++ l ∷ [])) (sym e)))))

      longer_list : after.longest ≡ w.longest ++ calls_past (length w.longest) l.step.committed l.step.calls
      longer_list = next.longest ∙ ap (λ (n : ℕ). w.longest ++ calls_past (length w.longest) n l.step.calls) (sym step.committed)

-- ---- the whole run

module _ {O A : Type 0} (object : Sequential O) (group : Group) (few : group.count ≤ 16) where
  abbrev m : Machine (Node A) A
  m = node_machine object group

  abbrev world : List (LineView A) → World A
  world lines = run object (world_opening group) (events_of lines)

  world-more : (before : List (LineView A)) (l : LineView A)
      → world (before ++ l ∷ []) ≡ world_after_event object (world before) (event_of before l.step.node l.step.input)
  world-more before l =
      ap (run object (world_opening group)) (after-snoc [] before l)
      ∙ run-more object (world_opening group) (events_of before) (event_of before l.step.node l.step.input)

  is-known : (w : World A) (i : ℕ) → w.group ≡ group → 1 ≤ i → i ≤ group.count → is_node w i ≡ true
  is-known w i e low high = and_from _ _ (le-leb 1 i low) (le-leb i w.group.count (omega (arith, high, ap (λ (g : Group). g.count) e)))

  -- each node's steps continue from this world
  abbrev Lead : World A → List (LineView A) → Type 0
  Lead w ls = (i : ℕ) → 1 ≤ i → i ≤ group.count → (t : Node A) × LeadsToState m (w.nodes i) (steps_of i ls) t

  abbrev LeadTo : World A → List (LineView A) → World A → Type 0
  LeadTo w ls last = (i : ℕ) → 1 ≤ i → i ≤ group.count → LeadsToState m (w.nodes i) (steps_of i ls) (last.nodes i)

  pub record Ran (before ls : List (LineView A)) : Type 0 where
    pub done : AreDone object (world before) before ls
    pub fit : Each EventFits (events_after before ls)
    pub keep : Each IsEventCallWithinLimits (events_after before ls)
    pub says : Says object group (world (before ++ ls)) (before ++ ls)
    pub nodes : LeadTo (world before) ls (world (before ++ ls))

  -- the first line of its node
  first : (w : World A) (l : LineView A) (ls : List (LineView A)) → 1 ≤ l.step.node → l.step.node ≤ group.count → Lead w (l ∷ ls)
      → (t : Node A) × LeadsToState m (w.nodes l.step.node) (l.step ∷ steps_of l.step.node ls) t
  first w l ls low high lead =
      let h = lead l.step.node low high in (
        h.0,
        subst (λ (ss : List (StepView A)). LeadsToState m (w.nodes l.step.node) ss h.0)
            (steps_of-first l.step.node ls l (eq-eqb l.step.node l.step.node refl)) h.1,
      )

  rest-leads : (w after : World A) (l : LineView A) (ls : List (LineView A)) (u : Node A) → IsNext object group w after l.step.node l.step.input l.step u
      → ((t : Node A) × LeadsToState m u (steps_of l.step.node ls) t) → Lead w (l ∷ ls) → Lead after ls
  rest-leads w after l ls u next own lead i low high = elim (cases_Bool (i == l.step.node)) [
    | inl t ↦
        let e : i ≡ l.step.node = eqb-true i l.step.node t in
        let is : after.nodes i ≡ u = ap (λ (k : ℕ). after.nodes k) e ∙ next.own in
        (own.0, subst (λ (x : Node A). LeadsToState m x (steps_of i ls) own.0) (sym is) (subst (λ (k : ℕ). LeadsToState m u (steps_of k ls) own.0) (sym e) own.1))
    | inr f ↦
        let h = lead i low high in
        let skip = steps_of-skip i ls l (grind (arith, nat_tests, f)) in (
          h.0,
          subst (λ (x : Node A). LeadsToState m x (steps_of i ls) h.0) (sym (next.others i f))
              (subst (λ (ss : List (StepView A)). LeadsToState m (w.nodes i) ss h.0) skip h.1),
        )
  ]

  led-on : (w after last : World A) (l : LineView A) (ls : List (LineView A)) (u : Node A) → IsNext object group w after l.step.node l.step.input l.step u
      → IsStep m (w.nodes l.step.node) l.step u → LeadTo after ls last → LeadTo w (l ∷ ls) last
  led-on w after last l ls u next step rest i low high = elim (cases_Bool (i == l.step.node)) [
    | inl t ↦
        let e : l.step.node ≡ i = sym (eqb-true i l.step.node t) in
        let is : after.nodes i ≡ u = ap (λ (k : ℕ). after.nodes k) (sym e) ∙ next.own in
        let more : LeadsToState m u (steps_of i ls) (last.nodes i) = subst (λ (x : Node A). LeadsToState m x (steps_of i ls) (last.nodes i)) is (rest i low high) in
        let here : IsStep m (w.nodes i) l.step u = subst (λ (k : ℕ). IsStep m (w.nodes k) l.step u) e step in
        subst (λ (ss : List (StepView A)). LeadsToState m (w.nodes i) ss (last.nodes i)) (sym (steps_of-first i ls l (eq-eqb l.step.node i e))) (u, (here, more))
    | inr f ↦
        let skip = steps_of-skip i ls l (grind (arith, nat_tests, f)) in
        subst (λ (ss : List (StepView A)). LeadsToState m (w.nodes i) ss (last.nodes i)) (sym skip)
        (subst (λ (x : Node A). LeadsToState m x (steps_of i ls) (last.nodes i)) (next.others i f) (rest i low high))
  ]

  ran : (before ls : List (LineView A)) → Says object group (world before) before → Lead (world before) ls → Each (IsInside group.count) ls → AreDeliverable before ls
      → Ran before ls
  ran before [] says lead inside found =
      let e : before ++ [] ≡ before = append-nil before in
      record {
        done = tt;
        fit = tt;
        keep = tt;
        says = subst (λ (xs : List (LineView A)). Says object group (world xs) xs) (sym e) says;
        nodes = λ i low high. ap (λ (xs : List (LineView A)). (world xs).nodes i) e;
      }
  ran before (l ∷ ls) says lead inside found =
      let w = world before in
      let event = event_of before l.step.node l.step.input in
      let after = world_after_event object w event in
      let low = inside.0.0 in
      let high = inside.0.1 in
      let h = first w l ls low high lead in
      let u = h.1.0 in
      let step = h.1.1.0 in
      let f = follows object group w before l.step.node l.step.input l.step u (is-known w l.step.node says.group_is low high) says.frames step.makes found.0 in
      let more = world-more before l in
      let within = subst (λ (x : World A). (node_known_log (x.nodes l.step.node)).committed ≤ length x.longest) more
      (within-longest object group few (events_of (before ++ l ∷ [])) l.step.node low high) in
      let says' = says-next object group w after before l u says step f.next within in
      let lead' = rest-leads w after l ls u f.next (h.0, h.1.1.1) lead in
      let rest = ran (before ++ l ∷ []) ls (subst (λ (x : World A). Says object group x (before ++ l ∷ [])) (sym more) says')
      (subst (λ (x : World A). Lead x ls) (sym more) lead') inside.1 found.1 in
      let all : (before ++ l ∷ []) ++ ls ≡ before ++ l ∷ ls = append_assoc before (l ∷ []) ls in
      record {
        done = (f.done, subst (λ (x : World A). AreDone object x (before ++ l ∷ []) ls) more rest.done);
        fit = (event-fits before l.step.node l.step.input step.fits, rest.fit);
        keep = (event-keeps before l.step.node l.step.input step.fits, rest.keep);
        says = subst (λ (xs : List (LineView A)). Says object group (world xs) xs) all rest.says;
        nodes = subst (λ (xs : List (LineView A)). LeadTo w (l ∷ ls) (world xs)) all
            (led-on w after (world ((before ++ l ∷ []) ++ ls)) l ls u f.next step
            (subst (λ (x : World A). LeadTo x ls (world ((before ++ l ∷ []) ++ ls))) more rest.nodes));
      }

  says-nothing : Says object group (world []) []
  says-nothing = record {
    group_is = refl;
    frames = refl;
    history = refl;
    calls = λ i. refl;
    answers = λ i. refl;
    own = λ i. tt;
    committed = λ i. history_opening_of-known A group i;
    logged = record { below = tt; total = refl; calls_are = refl };
  }

  pub book_ran : (lines : List (LineView A)) → IsBookRun m group.count lines → Ran [] lines
  book_ran lines r = ran [] lines says-nothing r.nodes r.inside r.found

  pub is_run : (lines : List (LineView A)) → IsBookRun m group.count lines → IsRun object group lines
  is_run lines r =
      let n = book_ran lines r in
      let w = world lines in
      let log = sym n.says.logged.calls_are in
      record {
        done = n.done;
        fit = n.fit;
        keep = n.keep;
        frames = n.says.frames;
        history = n.says.history;
        order = order-longest object group few (events_of lines) ∙ ap deduplicated log;
        calls = λ i low high. n.says.calls i;
        answers = λ i low high. n.says.answers i;
        committed = λ i low high.
            taken-longest object group few (events_of lines) i low high
            ∙ (ap (λ (k : ℕ). take k w.longest) (n.says.committed i) ∙ ap (take (committed_places_of i lines)) log);
      }

  pub node_is : (lines : List (LineView A)) (i : ℕ) (t : Node A) → IsBookRun m group.count lines → 1 ≤ i → i ≤ group.count
      → LeadsToState m (node_opening group i) (steps_of i lines) t → t ≡ (world lines).nodes i
  node_is lines i t r low high led = leads_one m (node_opening group i) (steps_of i lines) t ((world lines).nodes i) led ((book_ran lines r).nodes i low high)
