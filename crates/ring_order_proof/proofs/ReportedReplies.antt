-- Each reply that a step adds to the history is the session table's, at a place of the node's committed calls that has the call.
use Rattle.std.proofs.Common.{◌≡◌, ℕ, suc, ◌+◌, ◌-◌, ◌&&◌, nat_le, ◌≤◌, Bool, true, false, List, [], ◌∷◌, ◌++◌, length, Option, Some, None, slice_get, refl, ap}
use Rattle.std.proofs.Common.{sym, subst, ◌∙◌, arith, append_assoc, All, if◌then◌else◌}
use Rattle.std.proofs.lemmas.Bool.{eqb-true, and_parts}
use Rattle.std.proofs.lemmas.List.Elements.{All-nil, All-cons, All-append}
use Rattle.std.proofs.lemmas.List.Sums.{fold-append}
use Rattle.ring_base.specs.Prefixes.{prefix_get}
use Rattle.ring_base.proofs.ListPlaces.{get-last}
use Rattle.ring_object.specs.Operations.{Sequential}
use Rattle.ring_payload.specs.declared.call.Call.{Call}
use Rattle.ring_session.specs.declared.answer.Answer.{Answer}
use Rattle.ring_session.specs.declared.answer.Answer.TheVariants.{Done, Kept, Refused}
use Rattle.ring_session.specs.Deduplicated.{IsCallAt}
use Rattle.ring_session.specs.SessionAnswer.{is_same, session_answer, reply_of_answer}
use Rattle.ring_session.specs.SessionAnswerLaws.{is_same-true, session_answer-front}
use Rattle.ring_session.specs.declared.ticket_answer.TicketAnswer.{TicketAnswer}
use Rattle.ring_session.specs.Table.{Table, opening, table_answer, table_next, table_after}
use Rattle.ring_session.specs.Tickets.{TicketCall, first_place, answering_place, is_place, answers_at, answers_after}
use Rattle.ring_session.proofs.TableLaws.{table_answers}
use Rattle.ring_node_spec.specs.declared.item.Item.{Item}
use Rattle.ring_node_spec.specs.Orders.{IsReplyGiven}
use Rattle.ring_node_spec.specs.Worlds.{reply_items, reply_items_of}

first_at : {A : Type 0} (c d : Call A) (since at : ℕ) (ds : List (Call A)) (p : ℕ)
    → ((q : ℕ) → first_place c since (at + 1) ds ≡ Some q → (at + 1 ≤ q) × (slice_get ds (q - (at + 1)) ≡ Some c)) → (b : Bool)
    → nat_le since at && is_same c d ≡ b
    → (if b then Some at else first_place c since (at + 1) ds) ≡ Some p → (at ≤ p) × (slice_get (d ∷ ds) (p - at) ≡ Some c)
first_at c d since at ds p later true same e =
    let here : at ≡ p = cc e in
    let zero_off : p - at ≡ 0 = omega (arith, here) in
    let is : d ≡ c = is_same-true c d ((and_parts (nat_le since at) (is_same c d) same).1) in
    (omega (arith, here), rw zero_off (ap Some is))
first_at c d since at ds p later false same e =
    let there = later p e in
    let off : p - at ≡ suc (p - (at + 1)) = omega (arith, there.0) in
    (omega (arith, there.0), rw off there.1)

-- the call is at its place
first_place-stands : {A : Type 0} (c : Call A) (since at : ℕ) (ds : List (Call A)) (p : ℕ) → first_place c since at ds ≡ Some p
    → (at ≤ p) × (slice_get ds (p - at) ≡ Some c)
first_place-stands c since at [] p e = absurd (cc e)
first_place-stands c since at (d ∷ ds) p e =
    first_at c d since at ds p (λ q h. first_place-stands c since (at + 1) ds q h) (nat_le since at && is_same c d) refl e

answering_place-stands : {A : Type 0} (done : List (Call A)) (t : TicketCall A) (p : ℕ) → answering_place done t ≡ Some p → IsCallAt done p t.call
answering_place-stands {A} done t p e =
    let same : p - 0 ≡ p = omega arith in
    subst (λ k. slice_get done k ≡ Some t.call) same (first_place-stands t.call t.since 0 done p e).1

-- one answer
abbrev told_one : {A : Type 0} → ℕ → Call A → Answer → List (TicketAnswer A)
told_one ticket c answer = record { ticket = ticket; call = c; answer = answer } ∷ []

pub is_place-true : (place : ℕ) (o : Option ℕ) → is_place place o ≡ true → o ≡ Some place
is_place-true place None e = absurd (cc e)
is_place-true place (Some p) e = ap Some (eqb-true p place e)

module _ {O A : Type 0} (object : Sequential O) (lists : List (List (Call A))) (node : ℕ) (all : List (Call A)) (there : slice_get lists node ≡ Some all) where
  -- a right item of the history
  abbrev IsRight : Item A → Type 0
  IsRight item = IsReplyGiven object lists item

  one-right : (place ticket : ℕ) (c : Call A) (answer : Answer) → IsCallAt all place c → session_answer object all place ≡ Some answer
      → All IsRight (reply_items_of (told_one ticket c answer))
  one-right place ticket c (Refused n) at is = All-nil IsRight
  one-right place ticket c (Done r) at is =
      All-cons IsRight _ [] (record {
        node = node;
        calls = all;
        committed_there = there;
        place = place;
        stands = at;
        answer = Done r;
        answered = is;
        brings =
            refl;
      })
      (All-nil IsRight)
  one-right place ticket c (Kept r) at is =
      All-cons IsRight _ [] (record {
        node = node;
        calls = all;
        committed_there = there;
        place = place;
        stands = at;
        answer = Kept r;
        answered = is;
        brings =
            refl;
      })
      (All-nil IsRight)

  items-append : (xs ys : List (TicketAnswer A)) → reply_items_of (xs ++ ys) ≡ reply_items_of xs ++ reply_items_of ys
  items-append [] ys = refl
  items-append (x ∷ xs) ys =
      ap (λ w. reply_items x.call (reply_of_answer x.answer) ++ w) (items-append xs ys)
      ∙ sym (append_assoc (reply_items x.call (reply_of_answer x.answer)) (reply_items_of xs) (reply_items_of ys))

  right-append : (xs ys : List (TicketAnswer A)) → All IsRight (reply_items_of xs) → All IsRight (reply_items_of ys) → All IsRight (reply_items_of (xs ++ ys))
  right-append xs ys h k = rw (items-append xs ys) (All-append IsRight (reply_items_of xs) (reply_items_of ys) h k)

  -- a call is done after others, and is at a place of the committed calls with this answer
  module _ (place : ℕ) (c : Call A) (stands : IsCallAt all place c) (answer : Answer) (is : session_answer object all place ≡ Some answer)
      (done : List (Call A)) where
    told-if : (ticket : ℕ) (t : TicketCall A) (b : Bool) → is_place (length done) (answering_place (done ++ c ∷ []) t) ≡ b
        → All IsRight (reply_items_of (if b then told_one ticket t.call answer else []))
    told-if ticket t false e = All-nil IsRight
    told-if ticket t true e =
        let at : IsCallAt (done ++ c ∷ []) (length done) t.call =
        answering_place-stands (done ++ c ∷ []) t (length done) (is_place-true (length done) (answering_place (done ++ c ∷ []) t) e) in
        let last : IsCallAt (done ++ c ∷ []) (length done) c = get-last done c in
        let same : Some c ≡ Some t.call = sym last ∙ at in
        one-right place ticket t.call answer (stands ∙ same) is

    told-at : (ticket : ℕ) (ts : List (TicketCall A)) → All IsRight (reply_items_of (answers_at answer (done ++ c ∷ []) (length done) ticket ts))
    told-at ticket [] = All-nil IsRight
    told-at ticket (t ∷ ts) =
        right-append (if is_place (length done) (answering_place (done ++ c ∷ []) t) then told_one ticket t.call answer else [])
        (answers_at answer (done ++ c ∷ []) (length done) (ticket + 1) ts)
        (told-if ticket t (is_place (length done) (answering_place (done ++ c ∷ []) t)) refl) (told-at (ticket + 1) ts)

  -- the answers as the calls are committed, whatever calls the node did before
  pub told-after : (tickets : List (TicketCall A)) (committed done more : List (Call A)) → committed ++ more ≡ all
      → All IsRight (reply_items_of (answers_after object (table_after object committed) tickets done more))
  told-after tickets committed done [] e = All-nil IsRight
  told-after tickets committed done (c ∷ more) e =
      let table = table_after object committed in
      let answer = table_answer object table c in
      let last : IsCallAt (committed ++ c ∷ []) (length committed) c = get-last committed c in
      let whole : (committed ++ c ∷ []) ++ more ≡ all = append_assoc committed (c ∷ []) more ∙ e in
      let stands : IsCallAt all (length committed) c = prefix_get (committed ++ c ∷ []) all (length committed) c (more, whole) last in
      let is : session_answer object all (length committed) ≡ Some answer =
      session_answer-front object (committed ++ c ∷ []) all (length committed) c last (more, whole) ∙ table_answers object committed c in
      let next : table_after object (committed ++ c ∷ []) ≡ table_next object table c =
      fold-append (table_next object) (opening object.initial) committed (c ∷ []) in
      right-append (answers_at answer (done ++ c ∷ []) (length done) 0 tickets) (answers_after object (table_next object table c) tickets (done ++ c ∷ []) more)
      (told-at (length committed) c stands answer is done 0 tickets)
      (subst (λ (t : Table O). All IsRight (reply_items_of (answers_after object t tickets (done ++ c ∷ []) more))) next
      (told-after tickets (committed ++ c ∷ []) (done ++ c ∷ []) more whole))
