-- A second copy of each ticket's call, until the ticket is answered, so that recording an answer in the history takes no
-- memory.
-- Rules: The replicated log 13 to 15
use Rattle.std.specs.Prelude.{◌≡◌, ℕ, List, [], ◌∷◌, length, Option, Some, None, slice_get, slice_set}
use Rattle.ring_payload.specs.declared.call.Call.{Call}
use Rattle.ring_session.specs.declared.ticket_answer.TicketAnswer.{TicketAnswer}
use Rattle.ring_session.specs.Tickets.{TicketCall, answering_place}

-- the view of contracts: by ticket, the copy that is left; and the number of tickets that there is still room for
pub record SpareCalls (A : Type 0) : Type 0 where
  pub calls : List (Option (Call A))
  pub places : ℕ

-- the ticket still has its copy
abbrev pub HasCopy : {A : Type 0} → List (Option (Call A)) → ℕ → Call A → Type 0
HasCopy calls ticket c = slice_get calls ticket ≡ Some (Some c)

-- each ticket has its copy, unless a call of `done` answers it
pub record Holds {A : Type 0} (calls : List (Option (Call A))) (tickets : List (TicketCall A)) (done : List (Call A)) : Type 0 where
  pub many : length calls ≡ length tickets
  pub each : (k : ℕ) (t : TicketCall A) → slice_get tickets k ≡ Some t → answering_place done t ≡ None → HasCopy calls k t.call

-- Answers, one after another

-- the copies without this ticket's
abbrev pub without : {A : Type 0} → List (Option (Call A)) → ℕ → List (Option (Call A))
without calls ticket = slice_set calls ticket None

-- the copies left after these answers
abbrev pub copies_after_answers : {A : Type 0} → List (Option (Call A)) → List (TicketAnswer A) → List (Option (Call A))
copies_after_answers calls [] = calls
copies_after_answers calls (a ∷ rest) = copies_after_answers (without calls a.ticket) rest

-- each answered ticket has its copy when it is answered
abbrev pub HaveCopies : {A : Type 0} → List (Option (Call A)) → List (TicketAnswer A) → Type 0
HaveCopies calls [] = Unit {0}
HaveCopies calls (a ∷ rest) = HasCopy calls a.ticket a.call × HaveCopies (without calls a.ticket) rest
