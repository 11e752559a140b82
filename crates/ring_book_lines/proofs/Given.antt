-- The answers that a node's step or submit adds to its tickets.
use Rattle.std.proofs.Common.{◌≡◌, ℕ, ◌+◌, ◌<◌, ◌≤◌, Bool, true, false, List, [], ◌∷◌, ◌++◌, length}
use Rattle.std.proofs.Common.{Option, None, refl, ap, sym, subst, ◌∙◌, arith, append-nil, length-append, if◌then◌else◌}
use Rattle.std.specs.Prelude.{replicate, ◌&&◌}
use Rattle.std.specs.List.{AllByRecursion}
use Rattle.std.proofs.lemmas.Bool.{cond_both}
use Rattle.std.proofs.lemmas.List.{length-replicate, replicate-append-replicate}
use Rattle.ring_object.specs.Operations.{Sequential}
use Rattle.ring_payload.specs.declared.call.Call.{Call}
use Rattle.ring_session.specs.declared.answer.Answer.{Answer}
use Rattle.ring_core_spec.specs.State.{StepResult}
use Rattle.ring_core_spec.specs.Stepping.{ring_step}
use Rattle.ring_core_spec.specs.declared.input.Input.TheVariants.{Frame as CoreFrame, Timeout as CoreTimeout}
use Rattle.ring_core_spec.specs.declared.out.Out.{Out}
use Rattle.ring_log.specs.KnownLog.{KnownLog, known_log_of, retained_log, is_known_log_sound}
use Rattle.ring_log.specs.Logs.{committed_calls}
use Rattle.ring_session.specs.Table.{Table, table_answer, table_next}
use Rattle.ring_session.specs.Tickets.{TicketCall, answers_after, answers_at, is_place, answering_place}
use Rattle.ring_session.specs.declared.ticket_answer.TicketAnswer.{TicketAnswer}
use Rattle.ring_node_spec.specs.DueSends.{due_of_outputs}
use Rattle.ring_node_spec.specs.EpochHistories.{epochs_after}
use Rattle.ring_node_spec.specs.Nodes.{Node, node_known_log, node_stopped, is_closed, is_restored}
use Rattle.ring_node_spec.specs.declared.input.Input.{Input}
use Rattle.ring_node_spec.specs.declared.input.Input.TheVariants.{Frame as FrameInput, Noise as NoiseInput, Timeout as TimeInput, Stop as StopInput}
use Rattle.ring_node_spec.specs.Stepping.{NodeStepResult, empty_step, with_dropped, newly_committed, drops, step_after_trim, table_since, did, settled, node_after_outputs, after_core, node_step, node_after_submit}
use Rattle.ring_book_lines.specs.Answers.{with_answers, answers_by_ticket}
use Rattle.ring_book_lines.specs.Events.{answers_of}
use Rattle.ring_book_lines.proofs.AnswersByTicket.{with_answers-append, with_answers-left}

-- Answers

-- the answers are of the first n tickets
abbrev AreBelow : {A : Type 0} → ℕ → List (TicketAnswer A) → Type 0
AreBelow {A} n as' = AllByRecursion (λ (a : TicketAnswer A). a.ticket < n) as'

below-append : {A : Type 0} (n : ℕ) (xs ys : List (TicketAnswer A)) → AreBelow n xs → AreBelow n ys → AreBelow n (xs ++ ys)
below-append n [] ys h k = k
below-append n (x ∷ xs) ys h k = (h.0, below-append n xs ys h.1 k)

below-if : {A : Type 0} (n : ℕ) (a : TicketAnswer A) (b : Bool) → a.ticket < n → AreBelow n (if b then a ∷ [] else [])
below-if n a true h = (h, tt)
below-if n a false h = tt

below-more : {A : Type 0} (n m : ℕ) (xs : List (TicketAnswer A)) → n ≤ m → AreBelow n xs → AreBelow m xs
below-more n m [] l h = tt
below-more n m (x ∷ xs) l h = (omega (arith, l, h.0), below-more n m xs l h.1)

below-at : {A : Type 0} (n : ℕ) (answer : Answer) (done : List (Call A)) (place ticket : ℕ) (ts : List (TicketCall A)) → ticket + length ts ≤ n
    → AreBelow n (answers_at answer done place ticket ts)
below-at n answer done place ticket [] h = tt
below-at {A} n answer done place ticket (t ∷ ts) h =
    let a : TicketAnswer A = record { ticket = ticket; call = t.call; answer = answer } in
    below-append n (if is_place place (answering_place done t) then a ∷ [] else []) (answers_at answer done place (ticket + 1) ts)
    (below-if n a (is_place place (answering_place done t)) (omega arith)) (below-at n answer done place (ticket + 1) ts (omega arith))

-- the answers that calls give are of the tickets
below-after : {O A : Type 0} (object : Sequential O) (table : Table O) (tickets : List (TicketCall A)) (done more : List (Call A))
    → AreBelow (length tickets) (answers_after object table tickets done more)
below-after object table tickets done [] = tt
below-after object table tickets done (c ∷ more) =
    let answer = table_answer object table c in
    let next = table_next object table c in
    below-append (length tickets) (answers_at answer (done ++ c ∷ []) (length done) 0 tickets) (answers_after object next tickets (done ++ c ∷ []) more)
    (below-at (length tickets) answer (done ++ c ∷ []) (length done) 0 tickets (omega arith))
    (below-after object next tickets (done ++ c ∷ []) more)

-- all answers that a node gave are of its tickets
abbrev pub HasOwn : {A : Type 0} → Node A → Type 0
HasOwn n = AreBelow (length n.tickets) n.answers

-- A step

-- the answers that a step adds
pub record Adds {A : Type 0} (n : Node A) (s : NodeStepResult A) : Type 0 where
  pub tickets : s.node.tickets ≡ n.tickets
  pub answers : s.node.answers ≡ n.answers ++ s.answers
  pub own : AreBelow (length n.tickets) s.answers

nothing-adds : {A : Type 0} (n : Node A) → Adds n (empty_step n)
nothing-adds n = record { tickets = refl; answers = sym (append-nil n.answers); own = tt }

stopped-adds : {A : Type 0} (n : Node A) → Adds n (empty_step (node_stopped n))
stopped-adds n = record { tickets = refl; answers = sym (append-nil n.answers); own = tt }

module _ {O A : Type 0} (object : Sequential O) where
  -- dropping places adds nothing
  step_after_trim-adds : (closed : Bool) (k : KnownLog A) (n : Node A) (s : NodeStepResult A) → Adds n s → Adds n (step_after_trim object closed k s)
  step_after_trim-adds closed k n s adds =
      cond_both (drops object closed k) (record s { node = with_dropped k.committed s.node; dropped = committed_calls (retained_log k) }) s (Adds n)
      (λ t. record { tickets = adds.tickets; answers = adds.answers; own = adds.own }) (λ f. adds)

  did-adds : (n new : Node A) (outs : List (Out A)) (k : KnownLog A) (more : List (Call A)) → new.tickets ≡ n.tickets → Adds n (did object n new outs k more)
  did-adds n new outs k more same =
      record { tickets = same; answers = refl; own = below-after object (table_since object (node_known_log n) k) n.tickets n.done more }

  settled-adds : (b : Bool) (n new : Node A) (outs : List (Out A)) (k : KnownLog A) → new.tickets ≡ n.tickets → Adds n (settled object b n new outs k)
  settled-adds false n new outs k same = stopped-adds n
  settled-adds true n new outs k same =
      let more = newly_committed (node_known_log n) k in
      step_after_trim-adds (is_closed n.group new.epochs) k n (did object n new outs k more) (did-adds n new outs k more same)

  core-adds : (n : Node A) (s : StepResult A) → Adds n (after_core object n s)
  core-adds n s =
      let epochs = epochs_after n.epochs s.outs in
      settled-adds (is_known_log_sound n.group epochs && is_restored object (known_log_of n.group epochs)) n
      (node_after_outputs n s.core epochs (due_of_outputs object n s.core n.epochs s.outs)) s.outs (known_log_of n.group epochs) refl

  pub step-adds : (n : Node A) (input : Input A) → Adds n (node_step object n input)
  step-adds n (FrameInput frame) = core-adds n (ring_step n.core (CoreFrame frame))
  step-adds n (TimeInput kind) = core-adds n (ring_step n.core (CoreTimeout kind))
  step-adds n NoiseInput = nothing-adds n
  step-adds n StopInput = stopped-adds n

-- a step adds the answers that it gives
pub answers_of-stepped : {A : Type 0} (n : Node A) (s : NodeStepResult A) → Adds n s → answers_of s.node ≡ with_answers (answers_of n) s.answers
answers_of-stepped {A} n s adds =
    let k = length n.tickets in
    ap (λ (ts : List (TicketCall A)). answers_by_ticket (length ts) s.node.answers) adds.tickets
    ∙ ap (answers_by_ticket k) adds.answers ∙ with_answers-append (replicate k None) n.answers s.answers

pub own-stepped : {A : Type 0} (n : Node A) (s : NodeStepResult A) → Adds n s → HasOwn n → HasOwn s.node
own-stepped {A} n s adds own =
    subst (λ (ts : List (TicketCall A)). AreBelow (length ts) s.node.answers) (sym adds.tickets)
    (subst (AreBelow (length n.tickets)) (sym adds.answers) (below-append (length n.tickets) n.answers s.answers own adds.own))

-- A submit adds a ticket without an answer

pub answers_of-submitted : {A : Type 0} (n : Node A) (c : Call A) → HasOwn n → answers_of (node_after_submit n c) ≡ answers_of n ++ None ∷ []
answers_of-submitted {A} n c own =
    let t : TicketCall A = record { call = c; since = length n.done } in
    let k = length n.tickets in
    let none : Option Answer = None in
    let below = subst (λ (j : ℕ). AreBelow j n.answers) (sym (length-replicate k none)) own in
    ap (λ (j : ℕ). answers_by_ticket j n.answers) (length-append n.tickets (t ∷ []))
    ∙ (ap (λ (ts : List (Option Answer)). with_answers ts n.answers) (sym (replicate-append-replicate k 1 none))
    ∙ with_answers-left (replicate k None) (None ∷ []) n.answers below)

pub own-submitted : {A : Type 0} (n : Node A) (c : Call A) → HasOwn n → HasOwn (node_after_submit n c)
own-submitted {A} n c own =
    let t : TicketCall A = record { call = c; since = length n.done } in
    below-more (length n.tickets) (length (n.tickets ++ t ∷ [])) n.answers (let e = length-append n.tickets (t ∷ []) in omega (arith, e)) own
