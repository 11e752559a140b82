-- Answers by ticket, answer by answer and step by step.
use Rattle.std.proofs.Common.{◌≡◌, ℕ, zero, suc, ◌+◌, ◌<◌, ◌≤◌, List, [], ◌∷◌, ◌++◌, length}
use Rattle.std.proofs.Common.{take, Option, Some, None, slice_get, refl, ap, subst, sym, ◌∙◌, arith, length-append, length-set}
use Rattle.std.specs.Prelude.{slice_set}
use Rattle.std.proofs.lemmas.List.{set-append_left}
use Rattle.std.specs.List.{AllByRecursion}
use Rattle.ring_session.specs.declared.answer.Answer.{Answer}
use Rattle.ring_session.specs.declared.ticket_answer.TicketAnswer.{TicketAnswer}
use Rattle.ring_book_lines.specs.declared.input.LineInput.{LineInput}
use Rattle.ring_book_lines.specs.declared.input.LineInput.TheVariants.{Submitted, Received}
use Rattle.ring_book_lines.specs.Answers.{with_answers, answers_after_step, answers_after_steps}
use Rattle.ring_book_lines.specs.Steps.{StepView}

-- one more answer
pub with_answers-take : {A : Type 0} (told : List (Option Answer)) (as' : List (TicketAnswer A)) (k : ℕ) (a : TicketAnswer A) → slice_get as' k ≡ Some a
    → with_answers told (take (suc k) as') ≡ slice_set (with_answers told (take k as')) a.ticket (Some a.answer)
with_answers-take told [] zero a h = absurd cc
with_answers-take told [] (suc k) a h = absurd cc
with_answers-take {A} told (x ∷ as') zero a h = let same : x ≡ a = cc in ap (λ (y : TicketAnswer A). slice_set told y.ticket (Some y.answer)) same
with_answers-take told (x ∷ as') (suc k) a h = with_answers-take (slice_set told x.ticket (Some x.answer)) as' k a h

pub with_answers-all : {A : Type 0} (told : List (Option Answer)) (as' : List (TicketAnswer A)) (k : ℕ) → length as' ≤ k
    → with_answers told (take k as') ≡ with_answers told as'
with_answers-all told [] zero h = refl
with_answers-all told [] (suc k) h = refl
with_answers-all told (a ∷ as') zero h = absurd (omega arith)
with_answers-all told (a ∷ as') (suc k) h = with_answers-all (slice_set told a.ticket (Some a.answer)) as' k (omega arith)

-- answers after others
pub with_answers-append : {A : Type 0} (told : List (Option Answer)) (as' more : List (TicketAnswer A))
    → with_answers told (as' ++ more) ≡ with_answers (with_answers told as') more
with_answers-append told [] more = refl
with_answers-append told (a ∷ as') more = with_answers-append (slice_set told a.ticket (Some a.answer)) as' more

-- answers of the first tickets leave the others
pub with_answers-left : {A : Type 0} (told others : List (Option Answer)) (as' : List (TicketAnswer A))
    → AllByRecursion (λ (a : TicketAnswer A). a.ticket < length told) as' → with_answers (told ++ others) as' ≡ with_answers told as' ++ others
with_answers-left told others [] h = refl
with_answers-left {A} told others (a ∷ as') h =
    let set = slice_set told a.ticket (Some a.answer) in
    ap (λ ts. with_answers ts as') (set-append_left told others a.ticket (Some a.answer) h.0)
    ∙ with_answers-left set others as'
    (subst (λ (n : ℕ). AllByRecursion (λ (b : TicketAnswer A). b.ticket < n) as') (sym (length-set told a.ticket (Some a.answer))) h.1)

-- one more step
pub answers_after_steps-snoc : {A : Type 0} (told : List (Option Answer)) (ss : List (StepView A)) (s : StepView A)
    → answers_after_steps told (ss ++ s ∷ []) ≡ answers_after_step (answers_after_steps told ss) s.input s.answers
answers_after_steps-snoc told [] s = refl
answers_after_steps-snoc told (x ∷ ss) s = answers_after_steps-snoc (answers_after_step told x.input x.answers) ss s

pub length-with_answers : {A : Type 0} (told : List (Option Answer)) (as' : List (TicketAnswer A)) → length (with_answers told as') ≡ length told
length-with_answers told [] = refl
length-with_answers told (a ∷ as') = length-with_answers (slice_set told a.ticket (Some a.answer)) as' ∙ length-set told a.ticket (Some a.answer)

-- a step adds at most one ticket
pub length-answers_after_step : {A : Type 0} (told : List (Option Answer)) (input : LineInput A) (as' : List (TicketAnswer A))
    → length (answers_after_step told input as') ≤ length told + 1
length-answers_after_step told (Submitted c) as' = omega (arith, length-append told (None ∷ []))
length-answers_after_step told (Received i at) as' = omega (arith, length-with_answers told as')

-- an answer to a ticket that was not given is not stored
pub set_past : {X : Type 0} (xs : List X) (i : ℕ) (x : X) → length xs ≤ i → slice_set xs i x ≡ xs
set_past [] zero x h = refl
set_past [] (suc i) x h = refl
set_past (y ∷ xs) zero x h = absurd (omega arith)
set_past (y ∷ xs) (suc i) x h = ap (λ ys. y ∷ ys) (set_past xs i x (omega arith))
