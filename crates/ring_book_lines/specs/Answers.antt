-- The answers of a node's tickets, by ticket.
-- Rules: The replicated log 13 and 14; The book and the threads 15
use Rattle.std.specs.Prelude.{ℕ, List, [], ◌∷◌, ◌++◌, Option, Some, None, replicate, slice_get, slice_set}
use Rattle.std.specs.Option.{option_and_then}
use Rattle.ring_session.specs.declared.answer.Answer.{Answer}
use Rattle.ring_session.specs.declared.ticket_answer.TicketAnswer.{TicketAnswer}
use Rattle.ring_book_lines.specs.declared.input.LineInput.{LineInput}
use Rattle.ring_book_lines.specs.declared.input.LineInput.TheVariants.{Submitted, Received}
use Rattle.ring_book_lines.specs.Lines.{steps_of}
use Rattle.ring_book_lines.specs.Steps.{StepView, LineView}

-- the answers by ticket, after these answers
abbrev pub with_answers : {A : Type 0} → List (Option Answer) → List (TicketAnswer A) → List (Option Answer)
with_answers told [] = told
with_answers told (a ∷ rest) = with_answers (slice_set told a.ticket (Some a.answer)) rest

-- the answers of `count` tickets that got these answers
abbrev pub answers_by_ticket : {A : Type 0} → ℕ → List (TicketAnswer A) → List (Option Answer)
answers_by_ticket count answers = with_answers (replicate count None) answers

-- the answers by ticket after one step; a submitted call gets the next ticket
abbrev pub answers_after_step : {A : Type 0} → List (Option Answer) → LineInput A → List (TicketAnswer A) → List (Option Answer)
answers_after_step told (Submitted c) answers = told ++ None ∷ []
answers_after_step told (Received input at) answers = with_answers told answers

-- the answers by ticket after further steps
abbrev pub answers_after_steps : {A : Type 0} → List (Option Answer) → List (StepView A) → List (Option Answer)
answers_after_steps told [] = told
answers_after_steps told (s ∷ ss) = answers_after_steps (answers_after_step told s.input s.answers) ss

-- the answers of a node's tickets, in the order of tickets, after these lines
abbrev pub answers_of_node : {A : Type 0} → ℕ → List (LineView A) → List (Option Answer)
answers_of_node node lines = answers_after_steps [] (steps_of node lines)

-- the answer of a ticket, if there is one
abbrev pub answer_of_ticket : List (Option Answer) → ℕ → Option Answer
answer_of_ticket told ticket = option_and_then (λ (answer : Option Answer). answer) (slice_get told ticket)

-- the answer of the node's ticket after these lines, if there is one
abbrev pub first_answer_in : {A : Type 0} → List (LineView A) → ℕ → ℕ → Option Answer
first_answer_in lines node ticket = answer_of_ticket (answers_of_node node lines) ticket
