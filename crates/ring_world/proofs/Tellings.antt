-- Answers are recorded one after another, each with the remaining copy of its call.
use Rattle.std.proofs.Common.{◌≡◌, ℕ, ◌+◌, ◌≤◌, List, [], ◌∷◌, ◌++◌, length, take, Option, Some, slice_get, refl, ap}
use Rattle.std.proofs.Common.{◌∙◌, sym, subst, arith, append-nil, append_assoc, length-append}
use Rattle.std.proofs.lemmas.List.{map-append}
use Rattle.ring_payload.specs.declared.call.Call.{Call}
use Rattle.ring_session.specs.SessionAnswer.{reply_of_answer}
use Rattle.ring_session.specs.declared.ticket_answer.TicketAnswer.{TicketAnswer}
use Rattle.ring_node_spec.specs.declared.item.Item.{Item}
use Rattle.ring_node_spec.specs.declared.client_report.Told.{Told}
use Rattle.ring_node_spec.specs.declared.client_report.Told.TheVariants.{Answer as ToldAnswer}
use Rattle.ring_node_spec.specs.Worlds.{reply_items_of, reply_items, reports_of_answers}
use Rattle.ring_world.specs.SpareCalls.{HasCopy, HaveCopies, without, copies_after_answers}

-- what the answers add
pub record HasTold {A : Type 0} (node : ℕ) (answers : List (TicketAnswer A)) (told told' : List (Told A))
    (history history' : List (Item A)) (calls calls' : List (Option (Call A))) : Type 0 where
  pub told_is : told' ≡ told ++ reports_of_answers node answers
  pub history_is : history' ≡ history ++ reply_items_of answers
  pub spares : calls' ≡ copies_after_answers calls answers

-- at most n places were taken
pub record HasTaken (n len len' capacity capacity' : ℕ) : Type 0 where
  pub len_is : len' ≤ len + n
  pub capacity_is : capacity' ≡ capacity

reply_items_of-push : {A : Type 0} (xs : List (TicketAnswer A)) (x : TicketAnswer A) → reply_items_of (xs ++ x ∷ []) ≡ reply_items_of xs ++ reply_items x.call (reply_of_answer x.answer)
reply_items_of-push [] x = append-nil (reply_items x.call (reply_of_answer x.answer))
reply_items_of-push (y ∷ xs) x = ap (λ is. reply_items y.call (reply_of_answer y.answer) ++ is) (reply_items_of-push xs x)
    ∙ sym (append_assoc (reply_items y.call (reply_of_answer y.answer)) (reply_items_of xs) (reply_items x.call (reply_of_answer x.answer)))

after-push : {A : Type 0} (calls : List (Option (Call A))) (xs : List (TicketAnswer A)) (x : TicketAnswer A)
    → copies_after_answers calls (xs ++ x ∷ []) ≡ without (copies_after_answers calls xs) x.ticket
after-push calls [] x = refl
after-push calls (y ∷ xs) x = after-push (without calls y.ticket) xs x

module _ {A : Type 0} (node : ℕ) (answers : List (TicketAnswer A)) (told : List (Told A)) (history : List (Item A)) (calls : List (Option (Call A))) where
  pub none_told : HasTold node [] told told history history calls calls
  none_told = record { told_is = sym (append-nil told); history_is = sym (append-nil history); spares = refl }

  pub one_told : (x : TicketAnswer A) (told1 told2 : List (Told A)) (history1 history2 : List (Item A))
      (calls1 calls2 : List (Option (Call A))) → HasTold node answers told told1 history history1 calls calls1 →
      told2 ≡ told1 ++ ToldAnswer node x.call x.answer ∷ [] → history2 ≡ history1 ++ reply_items x.call (reply_of_answer x.answer) → calls2 ≡ without calls1 x.ticket →
      HasTold node (answers ++ x ∷ []) told told2 history history2 calls calls2
  one_told x told1 told2 history1 history2 calls1 calls2 h a b c =
      let tells : TicketAnswer A → Told A = λ y. ToldAnswer node y.call y.answer in
      record {
        told_is = a ∙ ap (λ ts. ts ++ ToldAnswer node x.call x.answer ∷ []) h.told_is ∙ append_assoc told
            (reports_of_answers node answers) (ToldAnswer node x.call x.answer ∷ []) ∙ ap (λ ts. told ++ ts)
            (sym (map-append tells answers (x ∷ [])));
        history_is = b ∙ ap (λ is. is ++ reply_items x.call (reply_of_answer x.answer)) h.history_is ∙ append_assoc history
            (reply_items_of answers) (reply_items x.call (reply_of_answer x.answer)) ∙ ap (λ is. history ++ is)
            (sym (reply_items_of-push answers x));
        spares = c ∙ ap (λ cs. without cs x.ticket) h.spares ∙ sym (after-push calls answers x);
      }

pub none_taken : (len capacity : ℕ) → HasTaken 0 len len capacity capacity
none_taken len capacity = record { len_is = omega arith; capacity_is = refl }

pub one_taken : {X : Type 0} (xs : List X) (x : X) (len len1 len2 capacity capacity1 capacity2 : ℕ)
    → HasTaken (length xs) len len1 capacity capacity1 → len2 ≤ len1 + 1 → capacity2 ≡ capacity1 →
    HasTaken (length (xs ++ x ∷ [])) len len2 capacity capacity2
one_taken xs x len len1 len2 capacity capacity1 capacity2 h a b =
    record {
      len_is = (let l = h.len_is in let n = length-append xs (x ∷ []) in omega (arith, l, a, n));
      capacity_is = b
          ∙ h.capacity_is;
    }

-- the next answer still has its copy
pub left_at : {A : Type 0} (calls : List (Option (Call A))) (answers before : List (TicketAnswer A)) (x : TicketAnswer A)
    → before ≡ take (length before) answers → slice_get answers (length before) ≡ Some x →
    HaveCopies calls answers → HasCopy (copies_after_answers calls before) x.ticket x.call
left_at calls [] before x first at all = absurd (let q : ⊥ = cc at in q)
left_at {A} calls (a ∷ rest) [] x first at all = (let same : a ≡ x = cc at in subst (λ (y : TicketAnswer A). HasCopy calls y.ticket y.call) same all.0)
left_at {A} calls (a ∷ rest) (y ∷ ys) x first at all =
    let same : y ≡ a = cc first in
    let tail : ys ≡ take (length ys) rest = cc first in
    subst (λ (z : TicketAnswer A). HasCopy (copies_after_answers (without calls z.ticket) ys) x.ticket x.call) (sym same)
    (left_at (without calls a.ticket) rest ys x tail at all.1)
