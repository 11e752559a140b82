-- A ticket that has an answer was issued.
use Rattle.std.proofs.Common.{◌≡◌, ℕ, zero, suc, ◌+◌, ◌<◌, List, [], ◌∷◌, Option, Some, None, length, sym, arith, length-append}
use Rattle.std.proofs.Common.{IfSome}
use Rattle.ring_base.specs.Group.{Group}
use Rattle.ring_object.specs.Operations.{Sequential}
use Rattle.ring_session.specs.declared.answer.Answer.{Answer}
use Rattle.ring_session.specs.declared.ticket_answer.TicketAnswer.{TicketAnswer}
use Rattle.ring_book_lines.proofs.AnswersByTicket.{length-with_answers}
use Rattle.ring_book.specs.Lines.{LineInput, Submitted, Received, answers_after_step, answers_after_steps, answers_of_node, answer_of_ticket, first_answer_in, IsRun, steps_of}
use Rattle.ring_book.specs.Lines.{call_in, calls_of, StepView, LineView}
use Rattle.ring_host.specs.Answering.{IsAnswered}

module _ {A : Type 0} where
  length_told_by : (told : List (Option Answer)) (i : LineInput A) (answers : List (TicketAnswer A)) → length (answers_after_step told i answers) ≡ length told + length (call_in i)
  length_told_by told (Submitted c) answers = omega (arith, length-append told (None ∷ []))
  length_told_by told (Received input at) answers = omega (arith, length-with_answers told answers)

  -- Each submitted call has one ticket, and nothing else has.
  length_told : (told : List (Option Answer)) (ss : List (StepView A)) → length (answers_after_steps told ss) ≡ length told + length (calls_of ss)
  length_told told [] = omega arith
  length_told told (s ∷ ss) =
      let a = length_told (answers_after_step told s.input s.answers) ss in
      let b = length_told_by told s.input s.answers in
      omega (arith, a, b, length-append (call_in s.input) (calls_of ss))

is_within : (told : List (Option Answer)) (ticket : ℕ) (answer : Answer) → answer_of_ticket told ticket ≡ Some answer → ticket < length told
is_within [] zero answer h = cc
is_within [] (suc ticket) answer h = cc
is_within (x ∷ xs) zero answer h = omega arith
is_within (x ∷ xs) (suc ticket) answer h = let r = is_within xs ticket answer h in omega arith

pub is_issued : {A : Type 0} (lines : List (LineView A)) (node ticket : ℕ) (answer : Answer) → first_answer_in lines node ticket ≡ Some answer
    → ticket < length (calls_of (steps_of node lines))
is_issued lines node ticket answer h =
    let a = is_within (answers_of_node node lines) ticket answer h in
    let b = length_told [] (steps_of node lines) in
    omega (arith, a, b)

-- The answer of a run's book to a ticket is answered in that run.
pub is_answered : {A O : Type 0} (object : Sequential O) (group : Group) (lines : List (LineView A)) (node ticket : ℕ) (found : Option Answer)
    → IsRun object group lines → found ≡ first_answer_in lines node ticket → IfSome found (IsAnswered A object group node ticket)
is_answered object group lines node ticket None run h = _
is_answered object group lines node ticket (Some answer) run h =
    record { lines = lines; run = run; issued = is_issued lines node ticket answer (sym h); answered = sym h }
