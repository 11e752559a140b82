-- The number of answers as calls are done: each ticket has at most one, and none if it had one before.
use Rattle.std.proofs.Common.{◌≡◌, ℕ, suc, ◌+◌, ◌≤◌, ◌<◌, Bool, true, false, ◌==◌, List, [], ◌∷◌, ◌++◌, length}
use Rattle.std.proofs.Common.{Option, Some, None, is_none, refl, ap, sym, subst, arith, append_assoc, append-nil}
use Rattle.std.proofs.Common.{if◌then◌else◌}
use Rattle.std.specs.Prelude.{nat_le, ◌&&◌}
use Rattle.std.proofs.lemmas.Bool.{cond_both, ne_eqb}
use Rattle.std.proofs.lemmas.List.{length-append}
use Rattle.std.specs.Option.{option_or}
use Rattle.ring_object.specs.Operations.{Sequential}
use Rattle.ring_payload.specs.declared.call.Call.{Call}
use Rattle.ring_session.specs.declared.answer.Answer.{Answer}
use Rattle.ring_session.specs.SessionAnswer.{is_same}
use Rattle.ring_session.specs.Table.{Table, table_answer, table_next}
use Rattle.ring_core_spec.specs.declared.input.Input.{Input}
use Rattle.ring_core_spec.specs.declared.input.Input.TheVariants.{Frame as FrameInput, Timeout as TimeInput}
use Rattle.ring_core_spec.specs.declared.out.Out.{Out}
use Rattle.ring_core_spec.specs.Stepping.{ring_step}
use Rattle.ring_session.specs.declared.ticket_answer.TicketAnswer.{TicketAnswer}
use Rattle.ring_session.specs.Tickets.{TicketCall, answering_place, unanswered_tickets, is_place, answers_at, answers_after}
use Rattle.ring_session.proofs.TicketPlaces.{first_place-below, last_place, first_place-push}
use Rattle.ring_node_spec.specs.declared.input.Input.{Input as NodeInput}
use Rattle.ring_node_spec.specs.declared.input.Input.TheVariants.{Frame as NodeFrame, Noise as NodeNoise, Timeout as NodeTime, Stop as NodeStop}
use Rattle.ring_node_spec.specs.EpochHistories.{epochs_after}
use Rattle.ring_node_spec.specs.Nodes.{Node, node_known_log, node_pending, is_closed, is_restored}
use Rattle.ring_node_spec.specs.DueSends.{due_of_outputs}
use Rattle.ring_node_spec.specs.Stepping.{NodeStepResult, with_dropped, newly_committed, drops, table_since, did, settled, node_after_outputs, after_core, node_step}
use Rattle.ring_log.specs.KnownLog.{KnownLog, known_log_of, retained_log, is_known_log_sound}
use Rattle.ring_log.specs.Logs.{committed_calls}

-- One more call, one ticket

-- counted among the unanswered tickets
abbrev counted : Option ℕ → ℕ → ℕ
counted o n = if is_none o then suc n else n

-- the answers given before those of the later tickets, and the tickets then unanswered, are at most the tickets unanswered before
one_ticket : {A : Type 0} → (n : ℕ) (o last : Option ℕ) (told behind : List (TicketAnswer A)) (waits waited : ℕ) → ((p : ℕ) → o ≡ Some p → p < n) →
    ((p : ℕ) → last ≡ Some p → p ≡ n) → length told ≤ 1 → length behind + waits ≤ waited →
    length ((if is_place n (option_or o last) then told else []) ++ behind) + counted (option_or o last) waits ≤ counted o waited
one_ticket n (Some p) last told behind waits waited below at few h =
    let other : (p == n) ≡ false = ne_eqb p n (omega (arith, below p refl)) in
    rw other h
one_ticket n None None told behind waits waited below at few h = omega (arith, h)
one_ticket n None (Some p) told behind waits waited below at few h = by_test (p == n)
  where
    by_test : (b : Bool) → length ((if b then told else []) ++ behind) + waits ≤ suc waited
    by_test true = omega (arith, length-append told behind, few, h)
    by_test false = omega (arith, h)

last_is : {A : Type 0} → (c : Call A) (since at : ℕ) (d : Call A) (p : ℕ) → last_place c since at d ≡ Some p → p ≡ at
last_is c since at d p e = by_test (nat_le since at && is_same c d) e
  where
    by_test : (b : Bool) → (if b then Some at else None) ≡ Some p → p ≡ at
    by_test true h = (let x : at ≡ p = cc in sym x)
    by_test false h = absurd (let x : ⊥ = cc in x)

length_if : {A : Type 0} → (o : Option ℕ) (t : TicketCall A) (ts : List (TicketCall A)) → length (if is_none o then t ∷ ts else ts) ≡ counted o (length ts)
length_if None t ts = refl
length_if (Some p) t ts = refl

few_at : {A : Type 0} → (answer : Answer) (done : List (Call A)) (c : Call A) (ticket : ℕ) (ts : List (TicketCall A)) →
    length (answers_at answer (done ++ c ∷ []) (length done) ticket ts) + length (unanswered_tickets (done ++ c ∷ []) ts) ≤ length (unanswered_tickets done ts)
few_at answer done c ticket [] = omega arith
few_at {A} answer done c ticket (t ∷ ts) =
    let n = length done in
    let o = answering_place done t in
    let last = last_place t.call t.since (0 + n) c in
    let told : List (TicketAnswer A) = record { ticket = ticket; call = t.call; answer = answer } ∷ [] in
    let behind = answers_at answer (done ++ c ∷ []) n (ticket + 1) ts in
    let waits = length (unanswered_tickets (done ++ c ∷ []) ts) in
    let waited = length (unanswered_tickets done ts) in
    let here : length ((if is_place n (option_or o last) then told else []) ++ behind) + counted (option_or o last) waits ≤ counted o waited =
    one_ticket n o last told behind waits waited (λ p h. (let l = first_place-below t.call t.since 0 done p h in omega (arith, l)))
    (λ p h. (let l = last_is t.call t.since (0 + n) c p h in omega (arith, l))) (let one : length told ≡ 1 = refl in omega (arith, one))
    (few_at answer done c (ticket + 1) ts) in
    let place = answering_place (done ++ c ∷ []) t in
    let now : length ((if is_place n place then told else []) ++ behind) + counted place waits ≤ counted o waited =
    subst (λ (p : Option ℕ). length ((if is_place n p then told else []) ++ behind) + counted p waits ≤ counted o waited)
    (sym (first_place-push t.call t.since 0 done c)) here in
    let a = length_if (answering_place (done ++ c ∷ []) t) t (unanswered_tickets (done ++ c ∷ []) ts) in
    let b = length_if o t (unanswered_tickets done ts) in
    omega (arith, a, b, now)

module _ {O A : Type 0} (object : Sequential O) where
  -- More calls

  pub few_more : (table : Table O) (tickets : List (TicketCall A)) (done more : List (Call A)) →
      length (answers_after object table tickets done more) + length (unanswered_tickets (done ++ more) tickets) ≤ length (unanswered_tickets done tickets)
  few_more table tickets done [] = (let e = ap (λ calls. length (unanswered_tickets calls tickets)) (append-nil done) in omega (arith, e))
  few_more table tickets done (c ∷ more) =
      let now = answers_at (table_answer object table c) (done ++ c ∷ []) (length done) 0 tickets in
      let later = answers_after object (table_next object table c) tickets (done ++ c ∷ []) more in
      let a = few_at (table_answer object table c) done c 0 tickets in
      let b = few_more (table_next object table c) tickets (done ++ c ∷ []) more in
      let d = length-append now later in
      let e = ap (λ calls. length (unanswered_tickets calls tickets)) (append_assoc done (c ∷ []) more) in
      omega (arith, a, b, d, e)

  -- A step of a node

  few_if : (b : Bool) (old new : Node A) (outs : List (Out A)) (k : KnownLog A) → length (settled object b old new outs k).answers ≤ length (node_pending old)
  few_if false old new outs k = omega arith
  few_if true old new outs k =
      let more = newly_committed (node_known_log old) k in
      let s = did object old new outs k more in
      let few : length s.answers ≤ length (node_pending old) = omega (arith, few_more (table_since object (node_known_log old) k) old.tickets old.done more) in
      cond_both (drops object (is_closed old.group new.epochs) k)
      (record s { node = with_dropped k.committed s.node; dropped = committed_calls (retained_log k) }) s
      (λ (x : NodeStepResult A). length x.answers ≤ length (node_pending old)) (λ t. few) (λ e. few)

  few_after : (n : Node A) (input : Input A) → length (after_core object n (ring_step n.core input)).answers ≤ length (node_pending n)
  few_after n input =
      let s = ring_step n.core input in
      let epochs = epochs_after n.epochs s.outs in
      few_if (is_known_log_sound n.group epochs && is_restored object (known_log_of n.group epochs)) n (node_after_outputs n s.core epochs (due_of_outputs object n s.core n.epochs s.outs)) s.outs
      (known_log_of n.group epochs)

  pub few_answers : (n : Node A) (input : NodeInput A) → length (node_step object n input).answers ≤ length (node_pending n)
  few_answers n (NodeFrame frame) = few_after n (FrameInput frame)
  few_answers n (NodeTime kind) = few_after n (TimeInput kind)
  few_answers n NodeNoise = omega arith
  few_answers n NodeStop = omega arith
