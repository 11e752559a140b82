-- Tickets and their answers. A ticket is answered by the first call equal to its own among those that its node does after
-- its submission; the answer is that of the session table before that call. The count is of the calls that the node did,
-- not of places of its log.
-- Rules: The replicated log 13 to 15
use Rattle.std.specs.Prelude.{ℕ, ◌+◌, ◌==◌, ◌&&◌, nat_le, Bool, false, List, [], ◌∷◌, ◌++◌, length, Option, Some, None, is_none, map, if◌then◌else◌}
use Rattle.std.specs.List.{filter}
use Rattle.ring_object.specs.Operations.{Sequential}
use Rattle.ring_payload.specs.declared.call.Call.{Call}
use Rattle.ring_session.specs.declared.answer.Answer.{Answer}
use Rattle.ring_session.specs.RecentAnswers.{last_64}
use Rattle.ring_session.specs.SessionAnswer.{is_same}
use Rattle.ring_session.specs.Table.{Table, table_answer, table_next}
use Rattle.ring_session.specs.declared.ticket_answer.TicketAnswer.{TicketAnswer}

-- A ticket: its call, and the number of calls that its node had done at the submission. The ticket's number is its
-- position in the list of tickets, counted from 0.
pub record TicketCall (A : Type 0) : Type 0 where
  pub call : Call A
  pub since : ℕ

-- The calls of the tickets, in order.
abbrev pub ticket_calls : {A : Type 0} → List (TicketCall A) → List (Call A)
ticket_calls {A} tickets = map (λ (t : TicketCall A). t.call) tickets

-- The first place, at least `since`, of the call among these calls, the first of which has the place `at`.
abbrev pub first_place : {A : Type 0} → Call A → ℕ → ℕ → List (Call A) → Option ℕ
first_place c since at [] = None
first_place c since at (d ∷ ds) = if nat_le since at && is_same c d then Some at else first_place c since (at + 1) ds

-- The place of the call done that answers the ticket, if there is one.
abbrev pub answering_place : {A : Type 0} → List (Call A) → TicketCall A → Option ℕ
answering_place done t = first_place t.call t.since 0 done

-- The tickets that are not answered yet.
abbrev pub unanswered_tickets : {A : Type 0} → List (Call A) → List (TicketCall A) → List (TicketCall A)
unanswered_tickets {A} done tickets = filter (λ (t : TicketCall A). is_none (answering_place done t)) tickets

-- Whether this is the place.
abbrev pub is_place : ℕ → Option ℕ → Bool
is_place place None = false
is_place place (Some p) = p == place

-- The answers that the call at a place of the calls done gives, in the order of tickets, the first of which has this
-- number.
abbrev pub answers_at : {A : Type 0} → Answer → List (Call A) → ℕ → ℕ → List (TicketCall A) → List (TicketAnswer A)
answers_at answer done place ticket [] = []
answers_at answer done place ticket (t ∷ ts) =
    (if is_place place (answering_place done t) then record { ticket = ticket; call = t.call; answer = answer } ∷ [] else [])
    ++ answers_at answer done place (ticket + 1) ts

-- The answers to tickets if a node does more calls after those done, in order, by the session table before the new
-- calls.
abbrev pub answers_after : {O A : Type 0} → Sequential O → Table O → List (TicketCall A) → List (Call A) → List (Call A) → List (TicketAnswer A)
answers_after object table tickets done [] = []
answers_after object table tickets done (c ∷ more) =
    answers_at (table_answer object table c) (done ++ c ∷ []) (length done) 0 tickets
    ++ answers_after object (table_next object table c) tickets (done ++ c ∷ []) more

-- The last 64 answers, which are kept.
abbrev pub kept_answers : {A : Type 0} → List (TicketAnswer A) → List (TicketAnswer A)
kept_answers answers = last_64 answers

-- The answer to the ticket among these answers.
abbrev pub ticket_answer_in : {A : Type 0} → ℕ → List (TicketAnswer A) → Option Answer
ticket_answer_in ticket [] = None
ticket_answer_in ticket (a ∷ rest) = if a.ticket == ticket then Some a.answer else ticket_answer_in ticket rest
