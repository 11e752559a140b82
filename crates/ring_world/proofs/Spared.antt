-- Each ticket that a step answers has its second copy, and the waiting tickets keep theirs.
use Rattle.std.proofs.Common.{◌≡◌, ℕ, zero, suc, ◌+◌, ◌<◌, Bool, true, false, List, [], ◌∷◌, ◌++◌, length, Option, Some, length-set}
use Rattle.std.proofs.Common.{None, slice_get, refl, ap, ◌∙◌, sym, subst, arith, append-nil, append_assoc, inl}
use Rattle.std.proofs.Common.{inr}
use Rattle.std.specs.Prelude.{if◌then◌else◌}
use Rattle.std.specs.Option.{option_or}
use Rattle.ring_object.specs.Operations.{Sequential}
use Rattle.ring_payload.specs.declared.call.Call.{Call}
use Rattle.ring_order_proof.proofs.ReportedReplies.{is_place-true}
use Rattle.ring_session.specs.declared.answer.Answer.{Answer}
use Rattle.ring_session.specs.Table.{Table, table_answer, table_next}
use Rattle.ring_session.specs.declared.ticket_answer.TicketAnswer.{TicketAnswer}
use Rattle.ring_session.specs.Tickets.{TicketCall, answering_place, is_place, answers_at, answers_after}
use Rattle.ring_session.proofs.TicketPlaces.{first_place-below, last_place, first_place-push}
use Rattle.ring_world.specs.SpareCalls.{HasCopy, HaveCopies, without, copies_after_answers, Holds}
use Rattle.ring_base.proofs.ListPlaces.{get-push, get-last, get-left, get-set_other, push-length}

-- Answers, one list after another

after-append : {A : Type 0} (calls : List (Option (Call A))) (xs ys : List (TicketAnswer A)) → copies_after_answers calls
    (xs ++ ys) ≡ copies_after_answers (copies_after_answers calls xs) ys
after-append calls [] ys = refl
after-append calls (x ∷ xs) ys = after-append (without calls x.ticket) xs ys

left-append : {A : Type 0} (calls : List (Option (Call A))) (xs ys : List (TicketAnswer A)) → HaveCopies calls xs
    → HaveCopies (copies_after_answers calls xs) ys → HaveCopies calls (xs ++ ys)
left-append calls [] ys h k = k
left-append calls (x ∷ xs) ys h k = (h.0, left-append (without calls x.ticket) xs ys h.1 k)

-- One more call: a ticket without a place gets this one, or none

module _ {A : Type 0} (done : List (Call A)) (d : Call A) where
  split_new : (o last : Option ℕ) → ((p : ℕ) → o ≡ Some p → p < length done) → option_or o last ≡ Some (length done) → o ≡ None
  split_new None last below e = refl
  split_new (Some p) last below e = absurd (let l = below p refl in let q : p ≡ length done = cc e in omega (arith, l, q))

  split_none : (o last : Option ℕ) → option_or o last ≡ None → o ≡ None
  split_none None last e = refl
  split_none (Some p) last e = absurd (let q : ⊥ = cc e in q)

  was_waiting : (t : TicketCall A) → answering_place (done ++ d ∷ []) t ≡ Some (length done) → answering_place done t ≡ None
  was_waiting t e =
      split_new (answering_place done t) (last_place t.call t.since (0 + length done) d)
      (λ p h. (let l = first_place-below t.call t.since 0 done p h in omega (arith, l)))
      (sym (first_place-push t.call t.since 0 done d) ∙ e)

  waits_on : (t : TicketCall A) → answering_place (done ++ d ∷ []) t ≡ None → answering_place done t ≡ None
  waits_on t e = split_none (answering_place done t) (last_place t.call t.since (0 + length done) d)
      (sym (first_place-push t.call t.since 0 done d) ∙ e)

not_place : (place : ℕ) (o : Option ℕ) → is_place place o ≡ true → o ≡ None → ⊥
not_place place o e n = (let s = is_place-true place o e in let q : ⊥ = cc (sym s ∙ n) in q)

module _ {A : Type 0} where
  -- the answers of one place, to the tickets from this one on
  record IsGroup (done : List (Call A)) (calls : List (Option (Call A))) (ticket : ℕ) (ts : List (TicketCall A)) (answers : List (TicketAnswer A)) : Type 0 where
    pub left : HaveCopies calls answers
    pub each : (k : ℕ) (t : TicketCall A) → slice_get ts k ≡ Some t → answering_place done t ≡ None → HasCopy (copies_after_answers calls answers) (ticket + k) t.call
    pub below : (j : ℕ) → j < ticket → slice_get (copies_after_answers calls answers) j ≡ slice_get calls j
    pub many : length (copies_after_answers calls answers) ≡ length calls

  abbrev Wait : List (Call A) → List (Option (Call A)) → ℕ → List (TicketCall A) → Type 0
  Wait done calls ticket ts = (k : ℕ) (t : TicketCall A) → slice_get ts k ≡ Some t → answering_place done t ≡ None → HasCopy calls (ticket + k) t.call

  -- this ticket isn't answered
  skipped : (done : List (Call A)) (calls : List (Option (Call A))) (ticket : ℕ) (t : TicketCall A) (ts : List (TicketCall A)) (rest : List (TicketAnswer A)) →
      (answering_place done t ≡ None → HasCopy calls ticket t.call) → IsGroup done calls (ticket + 1) ts rest → IsGroup done calls ticket (t ∷ ts) rest
  skipped done calls ticket t ts rest here g = record {
    left = g.left;
    each = each_of;
    below = λ j l. g.below j (omega (arith, l));
    many = g.many;
  }
    where
      each_of : Wait done (copies_after_answers calls rest) ticket (t ∷ ts)
      each_of zero u e w =
          let same : t ≡ u = cc e in
          let at : ticket + zero ≡ ticket = omega arith in
          let was = subst (λ (v : TicketCall A). HasCopy calls ticket v.call) same (here (ap (answering_place done) same ∙ w)) in
          subst (λ n. HasCopy (copies_after_answers calls rest) n u.call) (sym at) (g.below ticket (omega arith) ∙ was)
      each_of (suc k) u e w =
          let at : (ticket + 1) + k ≡ ticket + suc k = omega arith in
          subst (λ n. HasCopy (copies_after_answers calls rest) n u.call) at (g.each k u e w)

  -- this ticket is answered
  taken : (done : List (Call A)) (calls : List (Option (Call A))) (ticket : ℕ) (t : TicketCall A)
      (ts : List (TicketCall A)) (rest : List (TicketAnswer A)) (a : Answer) → HasCopy calls ticket t.call →
      (answering_place done t ≡ None → ⊥) → IsGroup done (without calls ticket) (ticket + 1) ts rest →
      IsGroup done calls ticket (t ∷ ts) (record { ticket = ticket; call = t.call; answer = a } ∷ rest)
  taken done calls ticket t ts rest a here not g = record {
    left = (here, g.left);
    each = each_of;
    below = λ j l. g.below j (omega (arith, l)) ∙ get-set_other calls ticket j None (λ e. (let q : ⊥ = omega (arith, e, l) in q));
    many = g.many ∙ length-set calls ticket None;
  }
    where
      each_of : Wait done (copies_after_answers (without calls ticket) rest) ticket (t ∷ ts)
      each_of zero u e w = (let same : t ≡ u = cc e in absurd (not (ap (answering_place done) same ∙ w)))
      each_of (suc k) u e w =
          let at : (ticket + 1) + k ≡ ticket + suc k = omega arith in
          subst (λ n. HasCopy (copies_after_answers (without calls ticket) rest) n u.call) at (g.each k u e w)

  -- this ticket isn't answered, and those after it go on
  passed : (answer : Answer) (done : List (Call A)) (d : Call A) (calls : List (Option (Call A))) (ticket : ℕ) (t : TicketCall A)
      (ts : List (TicketCall A)) → Wait done calls ticket (t ∷ ts) →
      ((cs : List (Option (Call A))) → Wait done cs (ticket + 1) ts → IsGroup (done ++ d ∷ []) cs
      (ticket + 1) ts (answers_at answer (done ++ d ∷ []) (length done) (ticket + 1) ts)) →
      IsGroup (done ++ d ∷ []) calls ticket (t ∷ ts) (answers_at answer (done ++ d ∷ []) (length done) (ticket + 1) ts)
  passed answer done d calls ticket t ts wait rest =
      let at : ticket + 0 ≡ ticket = omega arith in
      skipped (done ++ d ∷ []) calls ticket t ts (answers_at answer (done ++ d ∷ []) (length done) (ticket + 1) ts)
      (λ w. subst (λ n. HasCopy calls n t.call) at (wait zero t refl (waits_on done d t w)))
      (rest calls (λ k u at_u w.
      let n : ticket + suc k ≡ (ticket + 1) + k = omega arith in
      subst (λ m. HasCopy calls m u.call) n (wait (suc k) u at_u w)))

  -- Either case

  abbrev head : Bool → ℕ → Call A → Answer → List (TicketAnswer A)
  head b ticket c answer = if b then record { ticket = ticket; call = c; answer = answer } ∷ [] else []

  module _ (answer : Answer) (done : List (Call A)) (d : Call A) where
    abbrev now : List (Call A)
    now = done ++ d ∷ []

    one : (b : Bool) (calls : List (Option (Call A))) (ticket : ℕ) (t : TicketCall A)
        (ts : List (TicketCall A)) → is_place (length done) (answering_place now t) ≡ b →
        Wait done calls ticket (t ∷ ts) → ((cs : List (Option (Call A))) → Wait done cs (ticket + 1) ts
        → IsGroup now cs (ticket + 1) ts (answers_at answer now (length done) (ticket + 1) ts)) →
        IsGroup now calls ticket (t ∷ ts) (head b ticket t.call answer ++ answers_at answer now (length done) (ticket + 1) ts)
    one false calls ticket t ts e wait rest = passed answer done d calls ticket t ts wait rest
    one true calls ticket t ts e wait rest =
        let at : ticket + 0 ≡ ticket = omega arith in
        let here = subst (λ n. HasCopy calls n t.call) at (wait zero t refl (was_waiting done d t (is_place-true (length done) (answering_place now t) e))) in
        taken now calls ticket t ts (answers_at answer now (length done) (ticket + 1) ts) answer here (not_place (length done) (answering_place now t) e)
        (rest (without calls ticket) (λ k u at_u w.
        let n : ticket + suc k ≡ (ticket + 1) + k = omega arith in
        get-set_other calls ticket ((ticket + 1) + k) None (λ q. (let f : ⊥ = omega (arith, q) in f))
        ∙ subst (λ m. HasCopy calls m u.call) n (wait (suc k) u at_u w)))

    group : (calls : List (Option (Call A))) (ticket : ℕ) (ts : List (TicketCall A)) → Wait done calls ticket ts
        → IsGroup now calls ticket ts (answers_at answer now (length done) ticket ts)
    group calls ticket [] wait = record { left = tt; each = λ k t e w. absurd (let q : ⊥ = cc e in q); below = λ j l. refl; many = refl }
    group calls ticket (t ∷ ts) wait =
        one (is_place (length done) (answering_place now t)) calls ticket t ts refl wait (λ cs w. group cs (ticket + 1) ts w)

-- Call by call

pub record IsContinuation {A : Type 0} (tickets : List (TicketCall A)) (done : List (Call A)) (calls : List (Option (Call A))) (answers : List (TicketAnswer A)) : Type 0 where
  pub left : HaveCopies calls answers
  pub holds : Holds (copies_after_answers calls answers) tickets done

module _ {O A : Type 0} (object : Sequential O) where
  pub goes_on : (table : Table O) (tickets : List (TicketCall A)) (done more : List (Call A)) (calls : List (Option (Call A))) → Holds calls tickets done →
      IsContinuation tickets (done ++ more) calls (answers_after object table tickets done more)
  goes_on table tickets done [] calls h = record { left = tt; holds = subst (Holds calls tickets) (sym (append-nil done)) h }
  goes_on table tickets done (c ∷ more) calls h =
      let now = done ++ c ∷ [] in
      let answer = table_answer object table c in
      let next = table_next object table c in
      let first = answers_at answer now (length done) 0 tickets in
      let g = group answer done c calls 0 tickets (λ k t e w. subst (λ n. HasCopy calls n t.call) (let q : k ≡ 0 + k = omega arith in q) (h.each k t e w)) in
      let between : Holds (copies_after_answers calls first) tickets now = record {
        many = g.many ∙ h.many;
        each = λ k t e w. subst (λ n. HasCopy (copies_after_answers calls first) n t.call) (let q : 0 + k ≡ k = omega arith in q) (g.each k t e w);
      } in
      let rest = goes_on next tickets now more (copies_after_answers calls first) between in
      record {
        left = left-append calls first (answers_after object next tickets now more) g.left rest.left;
        holds = subst (λ cs. Holds cs tickets (done ++ c ∷ more)) (sym (after-append calls first (answers_after object next tickets now more)))
            (subst (Holds (copies_after_answers (copies_after_answers calls first) (answers_after object next tickets now more)) tickets)
            (append_assoc done (c ∷ []) more) rest.holds);
      }

-- One more ticket

pub copies-more : {A : Type 0} (calls : List (Option (Call A))) (tickets : List (TicketCall A)) (done : List (Call A))
    (t : TicketCall A) → Holds calls tickets done →
    Holds (calls ++ Some t.call ∷ []) (tickets ++ t ∷ []) done
copies-more {A} calls tickets done t h = record {
  many = push-length calls (Some t.call) ∙ ap suc h.many ∙ sym (push-length tickets t);
  each = λ k u e w. elim (get-push tickets t k u e) [
    | inl there ↦ get-left calls (Some t.call ∷ []) k (Some u.call) (h.each k u there w)
    | inr last ↦
        let at : k ≡ length calls = last.0 ∙ sym h.many in
        subst (λ n. slice_get (calls ++ Some t.call ∷ []) n ≡ Some (Some u.call)) (sym at)
        (get-last calls (Some t.call) ∙ ap (λ (v : TicketCall A). Some (Some v.call)) last.1)
  ];
}
