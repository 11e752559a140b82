-- Answers of a node: they grow at the end, a new ticket has none yet, and the last of them are kept.
use Rattle.std.proofs.Common.{◌≡◌, ℕ, zero, suc, ◌+◌, ◌-◌, ◌==◌, ◌&&◌, nat_le, ◌<◌, ◌≤◌, Bool, true, false, List, []}
use Rattle.std.proofs.Common.{◌∷◌, ◌++◌, length, take, drop, get_or, map, Option, Some, None, refl, ap, sym}
use Rattle.std.proofs.Common.{◌∙◌, arith, append_assoc, length-append, fold, if◌then◌else◌}
use Rattle.std.proofs.lemmas.Bool.{cond-false, and_left, lt-leb}
use Rattle.std.proofs.lemmas.List.{append-nil, drop-append-le, drop-drop, length-drop, length-map}
use Rattle.ring_base.proofs.Rows.{drop-next, take-next}
use Rattle.ring_object.specs.Operations.{Sequential}
use Rattle.ring_payload.specs.declared.call.Call.{Call}
use Rattle.ring_session.specs.declared.answer.Answer.{Answer}
use Rattle.ring_session.specs.SessionAnswer.{is_same}
use Rattle.ring_session.specs.declared.ticket_answer.TicketAnswer.{TicketAnswer}
use Rattle.ring_session.specs.declared.recent_answers.KeptAnswer.{KeptAnswer}
use Rattle.ring_session.specs.Table.{Table, table_answer, table_next}
use Rattle.ring_session.specs.Tickets.{TicketCall, first_place, answering_place, is_place, answers_at, answers_after, kept_answers, ticket_answer_in}
use Rattle.ring_session.specs.RecentAnswers.{last_64, kept_of, recent_answer_to}

-- ---- a new ticket

late-step : {A : Type 0} (c : Call A) (since at : ℕ) (ds : List (Call A)) (d : Call A) → nat_le since at ≡ false → first_place c since (at + 1) ds ≡ None
    → (if nat_le since at && is_same c d then Some at else first_place c since (at + 1) ds) ≡ None
late-step c since at ds d late e = cond-false (nat_le since at && is_same c d) (Some at)
    (first_place c since (at + 1) ds) (and_left (nat_le since at) (is_same c d) late) ∙ e

-- A ticket has no place among the calls done before it was given.
pub first_place-late : {A : Type 0} (c : Call A) (since at : ℕ) (ds : List (Call A)) → at + length ds ≤ since → first_place c since at ds ≡ None
first_place-late c since at [] late = refl
first_place-late c since at (d ∷ ds) late = late-step c since at ds d (lt-leb since at (omega arith)) (first_place-late c since (at + 1) ds (omega arith))

answers_at-push : {A : Type 0} (answer : Answer) (done : List (Call A)) (place i : ℕ) (ts : List (TicketCall A)) (t : TicketCall A) → length done ≤ t.since
    → answers_at answer done place i (ts ++ t ∷ []) ≡ answers_at answer done place i ts
answers_at-push {A} answer done place i [] t late =
    let told : List (TicketAnswer A) = record { ticket = i; call = t.call; answer = answer } ∷ [] in
    ap (λ (o : Option ℕ). (if is_place place o then told else []) ++ []) (first_place-late t.call t.since 0 done (omega arith))
answers_at-push {A} answer done place i (u ∷ ts) t late =
    let told : List (TicketAnswer A) = record { ticket = i; call = u.call; answer = answer } ∷ [] in
    ap (λ w. (if is_place place (answering_place done u) then told else []) ++ w) (answers_at-push answer done place (i + 1) ts t late)

module _ {O A : Type 0} (object : Sequential O) where
  -- A new ticket has no answer yet.
  pub answers_after-push : (table : Table O) (ts : List (TicketCall A)) (t : TicketCall A) (done more : List (Call A)) → length done + length more ≤ t.since
      → answers_after object table (ts ++ t ∷ []) done more ≡ answers_after object table ts done more
  answers_after-push table ts t done [] late = refl
  answers_after-push table ts t done (c ∷ more) late =
      let answer = table_answer object table c in
      let next = table_next object table c in
      let long = length-append done (c ∷ []) in
      ap (λ w. w ++ answers_after object next (ts ++ t ∷ []) (done ++ c ∷ []) more)
      (answers_at-push answer (done ++ c ∷ []) (length done) 0 ts t (omega (arith, long)))
      ∙ ap (λ w. answers_at answer (done ++ c ∷ []) (length done) 0 ts ++ w)
      (answers_after-push next ts t (done ++ c ∷ []) more (omega (arith, long)))

  -- The answers of later calls come after those of earlier ones.
  pub answers_after-append : (table : Table O) (ts : List (TicketCall A)) (done xs ys : List (Call A)) → answers_after object table ts done (xs ++ ys)
      ≡ answers_after object table ts done xs ++ answers_after object (fold (table_next object) table xs) ts (done ++ xs) ys
  answers_after-append table ts done [] ys = ap (λ w. answers_after object table ts w ys) (sym (append-nil done))
  answers_after-append table ts done (c ∷ xs) ys =
      let first = answers_at (table_answer object table c) (done ++ c ∷ []) (length done) 0 ts in
      let next = table_next object table c in
      let last = fold (table_next object) next xs in
      ap (λ w. first ++ w)
      (answers_after-append next ts (done ++ c ∷ []) xs ys
      ∙ ap (λ w. answers_after object next ts (done ++ c ∷ []) xs ++ answers_after object last ts w ys) (append_assoc done (c ∷ []) xs))
      ∙ sym (append_assoc first (answers_after object next ts (done ++ c ∷ []) xs) (answers_after object last ts (done ++ c ∷ xs) ys))

-- ---- the last answers

pub last_64-append : {X : Type 0} (xs ys : List X) → last_64 (last_64 xs ++ ys) ≡ last_64 (xs ++ ys)
last_64-append xs ys =
    let k = length xs - 64 in
    let left = length-drop k xs in
    let one = length-append (drop k xs) ys in
    let two = length-append xs ys in
    ap (λ w. drop (length (drop k xs ++ ys) - 64) w) (sym (drop-append-le k xs ys (omega arith)))
    ∙ drop-drop (length (drop k xs ++ ys) - 64) k (xs ++ ys)
    ∙ (let e : k + (length (drop k xs ++ ys) - 64) ≡ length (xs ++ ys) - 64 = omega (arith, left, one, two) in ap (λ n. drop n (xs ++ ys)) e)

pub map-drop : {X Y : Type 0} (f : X → Y) (n : ℕ) (xs : List X) → map f (drop n xs) ≡ drop n (map f xs)
map-drop f zero xs = refl
map-drop f (suc n) [] = refl
map-drop f (suc n) (x ∷ xs) = map-drop f n xs

map-last : {A : Type 0} (xs : List (TicketAnswer A)) → map kept_of (kept_answers xs) ≡ last_64 (map kept_of xs)
map-last {A} xs = map-drop kept_of (length xs - 64) xs ∙ ap (λ n. drop (n - 64) (map (kept_of {A = A}) xs)) (sym (length-map xs kept_of))

map-append : {A : Type 0} (xs ys : List (TicketAnswer A)) → map kept_of (xs ++ ys) ≡ map kept_of xs ++ map kept_of ys
map-append [] ys = refl
map-append (x ∷ xs) ys = ap (λ w. kept_of x ∷ w) (map-append xs ys)

-- The kept part of more answers.
pub kept-more : {A : Type 0} (xs ys : List (TicketAnswer A)) → last_64 (map kept_of (kept_answers xs) ++ map kept_of ys) ≡ map kept_of (kept_answers (xs ++ ys))
kept-more {A} xs ys =
    ap (λ w. last_64 (w ++ map (kept_of {A = A}) ys)) (map-last xs) ∙ last_64-append (map kept_of xs) (map kept_of ys)
    ∙ ap last_64 (sym (map-append xs ys)) ∙ sym (map-last (xs ++ ys))

kept-step : {A : Type 0} (a : TicketAnswer A) (ticket : ℕ) (b : Bool) (o p : Option Answer) → o ≡ p
    → (if b then Some a.answer else o) ≡ (if b then Some a.answer else p)
kept-step a ticket true o p e = refl
kept-step a ticket false o p e = e

pub recent_answer_to-map : {A : Type 0} (ticket : ℕ) (xs : List (TicketAnswer A)) → recent_answer_to ticket (map kept_of xs) ≡ ticket_answer_in ticket xs
recent_answer_to-map ticket [] = refl
recent_answer_to-map ticket (a ∷ xs) = kept-step a ticket (a.ticket == ticket) (recent_answer_to ticket (map kept_of xs))
    (ticket_answer_in ticket xs) (recent_answer_to-map ticket xs)

-- The kept answers from a position on.
pub recent_answer_to-next : (ticket : ℕ) (ks : List KeptAnswer) (i : ℕ) (k : KeptAnswer) → i < length ks → k ≡ get_or ks i k
    → recent_answer_to ticket (drop i ks) ≡ (if k.ticket == ticket then Some k.answer else recent_answer_to ticket
    (drop (i + 1) ks))
recent_answer_to-next ticket ks i k lt at = ap (recent_answer_to ticket) (drop-next ks i k lt at)

-- Few enough answers are all kept.
pub last_64-few : {X : Type 0} (xs : List X) → length xs ≤ 64 → xs ≡ last_64 (xs ++ [])
last_64-few xs few =
    let none : length xs - 64 ≡ 0 = omega (arith, few) in
    sym (ap (λ w. last_64 w) (append-nil xs) ∙ ap (λ n. drop n xs) none)

-- One more answer.
pub kept-next : {A : Type 0} (old now after : List KeptAnswer) (answers : List (TicketAnswer A)) (i : ℕ) (a : TicketAnswer A)
    (k : KeptAnswer) → i < length answers → a ≡ get_or answers i a → k ≡ kept_of a
    → now ≡ last_64 (old ++ map kept_of (take i answers)) → after ≡ last_64 (now ++ k ∷ []) → after ≡ last_64 (old ++ map kept_of (take (i + 1) answers))
kept-next {A} old now after answers i a k lt at is before e =
    let more : take (i + 1) answers ≡ take i answers ++ a ∷ [] = take-next answers i a lt at in
    e ∙ ap (λ w. last_64 (w ++ k ∷ [])) before ∙ last_64-append (old ++ map kept_of (take i answers)) (k ∷ [])
    ∙ ap last_64 (append_assoc old (map kept_of (take i answers)) (k ∷ []) ∙ ap (λ (x : KeptAnswer). old ++ (map kept_of (take i answers) ++ x ∷ [])) is
    ∙ ap (λ (w : List KeptAnswer). old ++ w) (sym (map-append (take i answers) (a ∷ [])) ∙ ap (λ (w : List (TicketAnswer A)). map kept_of w) (sym more)))
