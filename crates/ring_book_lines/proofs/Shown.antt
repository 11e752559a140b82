-- Histories, line by line and reply by reply.
use Rattle.std.proofs.Common.{◌≡◌, ℕ, zero, suc, ◌≤◌, ◌++◌, List, [], ◌∷◌, length, arith, take, Some, slice_get, refl, ap, sym, ◌∙◌, append-nil, append_assoc}
use Rattle.ring_session.specs.declared.ticket_answer.TicketAnswer.{TicketAnswer}
use Rattle.ring_node_spec.specs.Worlds.{reply_items_of as replies, reply_items}
use Rattle.ring_session.specs.SessionAnswer.{reply_of_answer}
use Rattle.ring_book_lines.specs.Steps.{LineView}
use Rattle.ring_book_lines.specs.Events.{items_in, history_of}

-- the history of one more line
pub history_of-take : {A : Type 0} (ls : List (LineView A)) (k : ℕ) (l : LineView A) → slice_get ls k ≡ Some l
    → history_of (take (suc k) ls) ≡ history_of (take k ls) ++ items_in l.step.input l.step.answers
history_of-take [] zero l h = absurd cc
history_of-take [] (suc k) l h = absurd cc
history_of-take (x ∷ ls) zero l h =
    let same : x ≡ l = cc in
    append-nil (items_in x.step.input x.step.answers) ∙ ap (λ y. items_in y.step.input y.step.answers) same
history_of-take (x ∷ ls) (suc k) l h =
    ap (λ ys. items_in x.step.input x.step.answers ++ ys) (history_of-take ls k l h)
    ∙ sym (append_assoc (items_in x.step.input x.step.answers) (history_of (take k ls)) (items_in l.step.input l.step.answers))

-- the replies of one more answer
pub replies-take : {A : Type 0} (as' : List (TicketAnswer A)) (k : ℕ) (a : TicketAnswer A) → slice_get as' k ≡ Some a
    → replies (take (suc k) as') ≡ replies (take k as') ++ reply_items a.call (reply_of_answer a.answer)
replies-take [] zero a h = absurd cc
replies-take [] (suc k) a h = absurd cc
replies-take (x ∷ as') zero a h =
    let same : x ≡ a = cc in
    append-nil (reply_items x.call (reply_of_answer x.answer)) ∙ ap (λ y. reply_items y.call (reply_of_answer y.answer)) same
replies-take (x ∷ as') (suc k) a h =
    ap (λ ys. reply_items x.call (reply_of_answer x.answer) ++ ys) (replies-take as' k a h)
    ∙ sym (append_assoc (reply_items x.call (reply_of_answer x.answer)) (replies (take k as')) (reply_items a.call (reply_of_answer a.answer)))

-- the history of all lines
pub history_of-all : {A : Type 0} (ls : List (LineView A)) (k : ℕ) → length ls ≤ k → history_of (take k ls) ≡ history_of ls
history_of-all [] zero h = refl
history_of-all [] (suc k) h = refl
history_of-all (l ∷ ls) zero h = absurd (omega arith)
history_of-all (l ∷ ls) (suc k) h = ap (λ ys. items_in l.step.input l.step.answers ++ ys) (history_of-all ls k (omega arith))
