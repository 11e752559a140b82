-- All tickets, answers and calls done determine what is kept, and a step gives the answers of the definition.

-- A ticket stays pending if its call isn't among the calls done since.
use Rattle.std.proofs.Common.{◌≡◌, ℕ, suc, ◌+◌, ◌==◌, ◌&&◌, ◌||◌, nat_le, ◌<◌, ◌≤◌, Bool, true, false, not, List, []}
use Rattle.std.proofs.Common.{◌∷◌, ◌++◌, length, take, drop, map, Option, Some, None, is_none, refl, ap, sym, ◌∙◌}
use Rattle.std.proofs.Common.{arith, append_assoc, length-append, if◌then◌else◌}
use Rattle.std.specs.List.{AllByRecursion}
use Rattle.std.specs.Option.{option_or}
use Rattle.std.proofs.lemmas.Bool.{eq-eqb, ne_eqb, le-leb}
use Rattle.std.proofs.lemmas.List.{append-nil}
use Rattle.ring_base.specs.Numbers.{max_number}
use Rattle.ring_object.specs.Operations.{Sequential}
use Rattle.ring_payload.specs.declared.call.Call.{Call}
use Rattle.ring_session.specs.declared.answer.Answer.{Answer}
use Rattle.ring_session.specs.SessionAnswer.{is_same}
use Rattle.ring_session.specs.Table.{Table, table_answer, table_next}
use Rattle.ring_session.specs.declared.ticket_answer.TicketAnswer.{TicketAnswer}
use Rattle.ring_session.specs.declared.pending_ticket.PendingTicket.{PendingTicket}
use Rattle.ring_session.specs.RecentAnswers.{last_64, kept_of, recent_answer_to}
use Rattle.ring_session.specs.Tickets.{TicketCall, first_place, answering_place, unanswered_tickets, is_place, answers_at}
use Rattle.ring_session.specs.Tickets.{answers_after, kept_answers, ticket_answer_in}
use Rattle.ring_session.specs.TicketsState.{Tickets, may_give_no_ticket, with_ticket, contains_call, answer_for, answers_to, answers_after_committed}
use Rattle.ring_session.specs.TicketsState.{unanswered_by, with_answers, pending_from, AreTickets}
use Rattle.ring_session.proofs.TicketPlaces.{first_place-below, place-push}
use Rattle.ring_session.proofs.AnswersGrow.{first_place-late, kept-more, recent_answer_to-map}

-- ---- places of calls done later

none-step : (early same stands : Bool) (o : Option ℕ) (at : ℕ) → early ≡ true → is_none o ≡ not stands
    → is_none (if early && same then Some at else o) ≡ not (same || stands)
none-step true true stands o at early rest = refl
none-step true false stands o at early rest = rest
none-step false same stands o at early rest = absurd (cc early)

none-behind : {A : Type 0} (c : Call A) (since at : ℕ) (ds : List (Call A)) → since ≤ at → is_none (first_place c since at ds) ≡ not (contains_call ds c)
none-behind c since at [] early = refl
none-behind c since at (d ∷ ds) early =
    none-step (nat_le since at) (is_same c d) (contains_call ds c) (first_place c since (at + 1) ds) at (le-leb since at early)
    (none-behind c since (at + 1) ds (omega arith))

or-step : (b stands : Bool) (o p : Option ℕ) (at : ℕ) → is_none p ≡ is_none o && not stands
    → is_none (if b then Some at else p) ≡ is_none (if b then Some at else o) && not stands
or-step true stands o p at rest = refl
or-step false stands o p at rest = rest

none-append : {A : Type 0} (c : Call A) (since at : ℕ) (xs ys : List (Call A)) → since ≤ at + length xs
    → is_none (first_place c since at (xs ++ ys)) ≡ is_none (first_place c since at xs) && not (contains_call ys c)
none-append c since at [] ys early = none-behind c since at ys (omega arith)
none-append c since at (x ∷ xs) ys early =
    or-step (nat_le since at && is_same c x) (contains_call ys c) (first_place c since (at + 1) xs) (first_place c since (at + 1) (xs ++ ys)) at
    (none-append c since (at + 1) xs ys (omega arith))

-- A ticket has no answer yet if it had none and its call isn't among those done since.
unplaced : {A : Type 0} (t : TicketCall A) (committed more : List (Call A)) → t.since ≤ length committed
    → is_none (answering_place (committed ++ more) t) ≡ is_none (answering_place committed t) && not (contains_call more t.call)
unplaced t committed more early = none-append t.call t.since 0 committed more (omega arith)

-- ---- the remaining tickets

left-step : {A : Type 0} (more : List (Call A)) (p : PendingTicket A) (rest rest' : List (PendingTicket A)) (b : Bool) → unanswered_by more rest ≡ rest'
    → unanswered_by more (if b then p ∷ rest else rest) ≡ (if b && not (contains_call more p.call) then p ∷ rest' else rest')
left-step more p rest rest' true e = ap (λ w. if not (contains_call more p.call) then p ∷ w else w) e
left-step more p rest rest' false e = e

left-pending : {A : Type 0} (committed more : List (Call A)) (i : ℕ) (ts : List (TicketCall A)) → AllByRecursion (λ (t : TicketCall A). t.since ≤ length committed) ts
    → unanswered_by more (pending_from committed i ts) ≡ pending_from (committed ++ more) i ts
left-pending committed more i [] early = refl
left-pending {A} committed more i (t ∷ ts) early =
    let p : PendingTicket A = record { ticket = i; call = t.call } in
    let rest' = pending_from (committed ++ more) (i + 1) ts in
    left-step more p (pending_from committed (i + 1) ts) rest' (is_none (answering_place committed t)) (left-pending committed more (i + 1) ts early.1)
    ∙ ap (λ b. if b then p ∷ rest' else rest') (sym (unplaced t committed more early.0))

-- ---- the answers of one call

answer-step : {A : Type 0} (b stands same : Bool) (a : TicketAnswer A) (o o' : Option ℕ) (n : ℕ) (told here tail : List (TicketAnswer A)) → is_none o ≡ b && not stands
    → o' ≡ option_or o (if same then Some n else None) → ((q : ℕ) → o ≡ Some q → q < n) → told ≡ a ∷ [] → here ≡ tail
    → (if b then (if same && not stands then a ∷ [] else []) ++ here else here) ≡ (if is_place n o' then told else []) ++ tail
answer-step {A} b stands same a (Some q) o' n told here tail none is below one e = old b stands same none
  where
    other : (q == n) ≡ false
    other = ne_eqb q n (omega (arith, below q refl))

    right : tail ≡ (if is_place n o' then told else []) ++ tail
    right = sym (ap (λ (w : Bool). (if w then told else []) ++ tail) (ap (is_place n) is ∙ other))

    old : (b stands same : Bool) → is_none (Some q) ≡ b && not stands
        → (if b then (if same && not stands then a ∷ [] else []) ++ here else here) ≡ (if is_place n o' then told else []) ++ tail
    old false stands same none = e ∙ right
    old true true true none = e ∙ right
    old true true false none = e ∙ right
    old true false same none = absurd (cc none)
answer-step {A} b stands same a None o' n told here tail none is below one e = new b stands same none is
  where
    new : (b stands same : Bool) → true ≡ b && not stands → o' ≡ (if same then Some n else None)
        → (if b then (if same && not stands then a ∷ [] else []) ++ here else here) ≡ (if is_place n o' then told else []) ++ tail
    new false stands same none is = absurd (cc none)
    new true true same none is = absurd (cc none)
    new true false true none is =
        ap (λ w. a ∷ w) e ∙ ap (λ w. w ++ tail) (sym one)
        ∙ sym (ap (λ (w : Bool). (if w then told else []) ++ tail) (ap (is_place n) is ∙ eq-eqb n n refl))
    new true false false none is = e ∙ sym (ap (λ (w : Option ℕ). (if is_place n w then told else []) ++ tail) is)

answers-if : {A : Type 0} (before : List (Call A)) (c : Call A) (answer : Answer) (p : PendingTicket A) (rest : List (PendingTicket A)) (b : Bool)
    → answers_to before c answer (if b then p ∷ rest else rest) ≡
    (if b then answer_for before c answer p ++ answers_to before c answer rest else answers_to before c answer rest)
answers-if before c answer p rest true = refl
answers-if before c answer p rest false = refl

earlier : {A : Type 0} (committed before : List (Call A)) (t : TicketCall A) → t.since ≤ length committed → t.since ≤ length (committed ++ before)
earlier committed before t early = omega (arith, early, length-append committed before)

answers-at : {A : Type 0} (answer : Answer) (done before : List (Call A)) (c : Call A) (i : ℕ) (ts : List (TicketCall A))
    → AllByRecursion (λ (t : TicketCall A). t.since ≤ length done) ts
    → answers_to before c answer (pending_from done i ts) ≡ answers_at answer ((done ++ before) ++ c ∷ []) (length (done ++ before)) i ts
answers-at answer done before c i [] early = refl
answers-at {A} answer done before c i (t ∷ ts) early =
    let all = done ++ before in
    let p : PendingTicket A = record { ticket = i; call = t.call } in
    let a : TicketAnswer A = record { ticket = i; call = t.call; answer = answer } in
    answers-if before c answer p (pending_from done (i + 1) ts) (is_none (answering_place done t))
    ∙ answer-step (is_none (answering_place done t)) (contains_call before t.call) (is_same t.call c) a (answering_place all t) (answering_place (all ++ c ∷ []) t) (length all)
    (a ∷ []) (answers_to before c answer (pending_from done (i + 1) ts)) (answers_at answer (all ++ c ∷ []) (length all) (i + 1) ts)
    (unplaced t done before early.0) (place-push all t c (earlier done before t early.0))
    (λ q h. omega (arith, first_place-below t.call t.since 0 all q h)) refl (answers-at answer done before c (i + 1) ts early.1)

-- ---- the answers of many calls

module _ {O A : Type 0} (object : Sequential O) where
  answers-of : (table : Table O) (asked : List (TicketCall A)) (done before more : List (Call A)) → AllByRecursion (λ (t : TicketCall A). t.since ≤ length done) asked
      → answers_after_committed object table (pending_from done 0 asked) before more ≡ answers_after object table asked (done ++ before) more
  answers-of table asked done before [] early = refl
  answers-of table asked done before (c ∷ more) early =
      let all = done ++ before in
      let answer = table_answer object table c in
      let next = table_next object table c in
      let assoc : done ++ (before ++ c ∷ []) ≡ all ++ c ∷ [] = sym (append_assoc done before (c ∷ [])) in
      ap (λ w. w ++ answers_after_committed object next (pending_from done 0 asked) (before ++ c ∷ []) more) (answers-at answer done before c 0 asked early)
      ∙ ap (λ w. answers_at answer (all ++ c ∷ []) (length all) 0 asked ++ w)
      (answers-of next asked done (before ++ c ∷ []) more early ∙ ap (λ (w : List (Call A)). answers_after object next asked w more) assoc)

  pub are-answers : (table : Table O) (asked : List (TicketCall A)) (done more : List (Call A)) (all : List (TicketAnswer A)) (t : Tickets A)
      → AreTickets asked done all t → answers_after_committed object table t.pending [] more ≡ answers_after object table asked done more
  are-answers table asked done more all t are =
      ap (λ (w : List (PendingTicket A)). answers_after_committed object table w [] more) are.pending
      ∙ answers-of table asked done [] more are.early ∙ ap (λ (w : List (Call A)). answers_after object table asked w more) (append-nil done)

-- ---- the kept state

module _ {A : Type 0} where
  early-more : (done more : List (Call A)) (ts : List (TicketCall A)) → AllByRecursion (λ (t : TicketCall A). t.since ≤ length done) ts
      → AllByRecursion (λ (t : TicketCall A). t.since ≤ length (done ++ more)) ts
  early-more done more [] early = early
  early-more done more (t ∷ ts) early = (earlier done more t early.0, early-more done more ts early.1)

  pub are-kept : (asked : List (TicketCall A)) (done more : List (Call A)) (all new : List (TicketAnswer A)) (t : Tickets A) → AreTickets asked done all t
      → AreTickets asked (done ++ more) (all ++ new) (with_answers t more new)
  are-kept asked done more all new t are =
      record {
        given = are.given;
        early = early-more done more asked are.early;
        pending = ap (unanswered_by more) are.pending ∙ left-pending done more 0 asked are.early;
        kept = ap (λ w. last_64 (w ++ map (kept_of {A = A}) new)) are.kept ∙ kept-more all new;
      }

  early-push : (committed : List (Call A)) (ts : List (TicketCall A)) (t : TicketCall A) → t.since ≤ length committed
      → AllByRecursion (λ (a : TicketCall A). a.since ≤ length committed) ts
      → AllByRecursion (λ (a : TicketCall A). a.since ≤ length committed) (ts ++ t ∷ [])
  early-push committed [] t last early = (last, tt)
  early-push committed (u ∷ ts) t last early = (early.0, early-push committed ts t last early.1)

  pending-step : (i : ℕ) (c : Call A) (rest : List (PendingTicket A)) (p : PendingTicket A) (more : List (PendingTicket A)) (b : Bool) → more ≡ rest ++ p ∷ []
      → (if b then record { ticket = i; call = c } ∷ more else more) ≡ (if b then record { ticket = i; call = c } ∷ rest else rest) ++ p ∷ []
  pending-step i c rest p more true e = ap (λ (w : List (PendingTicket A)). record { ticket = i; call = c } ∷ w) e
  pending-step i c rest p more false e = e

  -- A new ticket has no answer.
  pending-push : (committed : List (Call A)) (i : ℕ) (ts : List (TicketCall A)) (t : TicketCall A) → length committed ≤ t.since
      → pending_from committed i (ts ++ t ∷ []) ≡ pending_from committed i ts ++ record { ticket = i + length ts; call = t.call } ∷ []
  pending-push committed i [] t late =
      let one : ℕ → List (PendingTicket A) = λ k. record { ticket = k; call = t.call } ∷ [] in
      let e : i ≡ i + 0 = omega arith in
      ap (λ (o : Option ℕ). if is_none o then one i else []) (first_place-late t.call t.since 0 committed (omega arith)) ∙ ap one e
  pending-push committed i (u ∷ ts) t late =
      let e : i + 1 + length ts ≡ i + suc (length ts) = omega arith in
      let last : ℕ → PendingTicket A = λ k. record { ticket = k; call = t.call } in
      pending-step i u.call (pending_from committed (i + 1) ts) (last (i + suc (length ts))) (pending_from committed (i + 1) (ts ++ t ∷ []))
      (is_none (answering_place committed u))
      (pending-push committed (i + 1) ts t late ∙ ap (λ k. pending_from committed (i + 1) ts ++ last k ∷ []) e)

  pub are-given : (asked : List (TicketCall A)) (done : List (Call A)) (all : List (TicketAnswer A)) (t : Tickets A) (c : Call A) → AreTickets asked done all t
      → AreTickets (asked ++ record { call = c; since = length done } ∷ []) done all (with_ticket t c)
  are-given asked done all t c are =
      let new : TicketCall A = record { call = c; since = length done } in
      let last : ℕ → PendingTicket A = λ k. record { ticket = k; call = c } in
      let number : t.given ≡ 0 + length asked = omega (arith, are.given) in
      record {
        given = omega (arith, are.given, length-append asked (new ∷ []));
        early = early-push done asked new (omega arith) are.early;
        pending = ap (λ w. w ++ last t.given ∷ []) are.pending ∙ ap (λ k. pending_from done 0 asked ++ last k ∷ []) number
            ∙ sym (pending-push done 0 asked new (omega arith));
        kept = are.kept;
      }

  length-step : (p : PendingTicket A) (t : TicketCall A) (rest : List (PendingTicket A)) (ts : List (TicketCall A)) (b : Bool) → length rest ≡ length ts
      → length (if b then p ∷ rest else rest) ≡ length (if b then t ∷ ts else ts)
  length-step p t rest ts true e = ap suc e
  length-step p t rest ts false e = e

  length-pending : (committed : List (Call A)) (i : ℕ) (ts : List (TicketCall A)) → length (pending_from committed i ts) ≡ length (unanswered_tickets committed ts)
  length-pending committed i [] = refl
  length-pending committed i (t ∷ ts) =
      length-step (record { ticket = i; call = t.call }) t (pending_from committed (i + 1) ts) (unanswered_tickets committed ts) (is_none (answering_place committed t))
      (length-pending committed (i + 1) ts)

  pub are-full : (asked : List (TicketCall A)) (done : List (Call A)) (all : List (TicketAnswer A)) (t : Tickets A) → AreTickets asked done all t
      → may_give_no_ticket t ≡ nat_le 64 (length (unanswered_tickets done asked)) || nat_le max_number (length asked)
  are-full asked done all t are =
      let many : length t.pending ≡ length (unanswered_tickets done asked) = ap length are.pending ∙ length-pending done 0 asked in
      ap (λ n. nat_le 64 n || nat_le max_number t.given) many ∙ ap (λ n. nat_le 64 (length (unanswered_tickets done asked)) || nat_le max_number n) are.given

  pub are-replies : (asked : List (TicketCall A)) (done : List (Call A)) (all : List (TicketAnswer A)) (t : Tickets A) (ticket : ℕ) → AreTickets asked done all t
      → recent_answer_to ticket t.kept ≡ ticket_answer_in ticket (kept_answers all)
  are-replies asked done all t ticket are = ap (recent_answer_to ticket) are.kept ∙ recent_answer_to-map ticket (kept_answers all)

-- ---- one more committed call goes through the sessions

pub answers-on : {O A : Type 0} (object : Sequential O) (t t' : Table O) (pending : List (PendingTicket A)) (more front : List (Call A)) (i : ℕ) (c : Call A)
    (a : Answer) (all before after : List (TicketAnswer A))
    → drop i more ≡ c ∷ drop (i + 1) more → take (i + 1) more ≡ take i more ++ c ∷ [] → front ≡ take i more → a ≡ table_answer object t c
    → t' ≡ table_next object t c
    → after ≡ before ++ answers_to front c a pending → all ≡ before ++ answers_after_committed object t pending (take i more) (drop i more)
    → all ≡ after ++ answers_after_committed object t' pending (take (i + 1) more) (drop (i + 1) more)
answers-on {O} {A} object t t' pending more front i c a all before after rest first is answer table told e =
    let left : List (Call A) = drop (i + 1) more in
    let behind : List (Call A) → List (TicketAnswer A) = λ w. answers_after_committed object (table_next object t c) pending w left in
    e ∙ ap (λ w. before ++ answers_after_committed object t pending (take i more) w) rest
    ∙ sym (append_assoc before (answers_to (take i more) c (table_answer object t c) pending) (behind (take i more ++ c ∷ [])))
    ∙ ap (λ b. (before ++ answers_to (take i more) c b pending) ++ behind (take i more ++ c ∷ [])) (sym answer)
    ∙ ap (λ w. (before ++ answers_to w c a pending) ++ behind (take i more ++ c ∷ [])) (sym is)
    ∙ ap (λ w. w ++ behind (take i more ++ c ∷ [])) (sym told)
    ∙ ap (λ w. after ++ behind w) (sym first)
    ∙ ap (λ (u : Table O). after ++ answers_after_committed object u pending (take (i + 1) more) left) (sym table)
