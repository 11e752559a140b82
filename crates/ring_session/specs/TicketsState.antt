-- The state that a node keeps of its tickets, and how a new ticket and calls done change it. It keeps at most 64 calls
-- without an answer, and 64 answers.
-- Rules: The replicated log 13 to 15
use Rattle.std.specs.Prelude.{◌≡◌, ℕ, ◌+◌, ◌≤◌, ◌&&◌, ◌||◌, nat_le, Bool, not, List, [], ◌∷◌, ◌++◌, length, map, is_none, if◌then◌else◌}
use Rattle.std.specs.List.{AllByRecursion, filter, list_any}
use Rattle.ring_base.specs.Numbers.{max_number}
use Rattle.ring_object.specs.Operations.{Sequential}
use Rattle.ring_payload.specs.declared.call.Call.{Call}
use Rattle.ring_session.specs.declared.answer.Answer.{Answer}
use Rattle.ring_session.specs.SessionAnswer.{is_same}
use Rattle.ring_session.specs.Table.{Table, table_answer, table_next}
use Rattle.ring_session.specs.declared.ticket_answer.TicketAnswer.{TicketAnswer}
use Rattle.ring_session.specs.declared.pending_ticket.PendingTicket.{PendingTicket}
use Rattle.ring_session.specs.declared.recent_answers.KeptAnswer.{KeptAnswer}
use Rattle.ring_session.specs.RecentAnswers.{last_64, kept_of}
use Rattle.ring_session.specs.Tickets.{TicketCall, answering_place, kept_answers}

-- The number of tickets given, the unanswered tickets in order, and the last answers.
pub record Tickets (A : Type 0) : Type 0 where
  pub given : ℕ
  pub pending : List (PendingTicket A)
  pub kept : List KeptAnswer

-- The state before any ticket is given.
abbrev pub no_tickets : {A : Type 0} → Tickets A
no_tickets = record { given = 0; pending = []; kept = [] }

-- Whether no ticket may be given: 64 are unanswered, or 2^62 have been given.
abbrev pub may_give_no_ticket : {A : Type 0} → Tickets A → Bool
may_give_no_ticket t = nat_le 64 (length t.pending) || nat_le max_number t.given

-- The state after the call got the next ticket.
abbrev pub with_ticket : {A : Type 0} → Tickets A → Call A → Tickets A
with_ticket t c = record t { given = t.given + 1; pending = t.pending ++ record { ticket = t.given; call = c } ∷ [] }

-- Answers, as committed calls are done

-- Whether the call is among these.
abbrev pub contains_call : {A : Type 0} → List (Call A) → Call A → Bool
contains_call calls c = list_any (is_same c) calls

-- The answer to a ticket, if its call is the answered call and wasn't done before.
abbrev pub answer_for : {A : Type 0} → List (Call A) → Call A → Answer → PendingTicket A → List (TicketAnswer A)
answer_for before c answer p =
    if is_same p.call c && not (contains_call before p.call) then record { ticket = p.ticket; call = p.call; answer = answer } ∷ [] else []

-- The answers that a call's answer gives to the tickets.
abbrev pub answers_to : {A : Type 0} → List (Call A) → Call A → Answer → List (PendingTicket A) → List (TicketAnswer A)
answers_to before c answer [] = []
answers_to before c answer (p ∷ ps) = answer_for before c answer p ++ answers_to before c answer ps

-- The answers that calls in order give, by the session table, after calls that were done earlier in the same step.
abbrev pub answers_after_committed : {O A : Type 0} → Sequential O → Table O → List (PendingTicket A) → List (Call A) → List (Call A) → List (TicketAnswer A)
answers_after_committed object table pending before [] = []
answers_after_committed object table pending before (c ∷ more) =
    answers_to before c (table_answer object table c) pending ++ answers_after_committed object (table_next object table c) pending (before ++ c ∷ []) more

-- The tickets that none of these calls answers, in order.
abbrev pub unanswered_by : {A : Type 0} → List (Call A) → List (PendingTicket A) → List (PendingTicket A)
unanswered_by {A} committed pending = filter (λ (p : PendingTicket A). not (contains_call committed p.call)) pending

-- The state after calls were done and gave these answers.
abbrev pub with_answers : {A : Type 0} → Tickets A → List (Call A) → List (TicketAnswer A) → Tickets A
with_answers {A} t committed answers = record t { pending = unanswered_by committed t.pending; kept = last_64 (t.kept ++ map kept_of answers) }

-- The state as determined by all tickets and answers given and all calls done

-- The unanswered tickets among these tickets, which are numbered from the given number on.
abbrev pub pending_from : {A : Type 0} → List (Call A) → ℕ → List (TicketCall A) → List (PendingTicket A)
pending_from done ticket [] = []
pending_from done ticket (t ∷ ts) =
    if is_none (answering_place done t) then record { ticket = ticket; call = t.call } ∷ pending_from done (ticket + 1) ts else pending_from done (ticket + 1) ts

-- The state is determined by all tickets, all calls done and all answers.
pub record AreTickets {A : Type 0} (asked : List (TicketCall A)) (done : List (Call A)) (answers : List (TicketAnswer A)) (t : Tickets A) : Type 0 where
  pub given : t.given ≡ length asked
  -- Each ticket was given when at most as many calls were done as now.
  pub early : AllByRecursion (λ (a : TicketCall A). a.since ≤ length done) asked
  pub pending : t.pending ≡ pending_from done 0 asked
  pub kept : t.kept ≡ map kept_of (kept_answers answers)
