-- The table after a list of calls holds each client's last call that took effect, with its reply, and gives the answers
-- that the list determines.
use Rattle.std.proofs.Common.{◌≡◌, ℕ, ◌+◌, ◌<◌, ◌==◌, ◌&&◌, ◌||◌, nat_lt, Bool, true, false, List, [], ◌∷◌, ◌++◌}
use Rattle.std.proofs.Common.{length, take, Option, Some, None, is_some, position, slice_get, get_or, refl, ap, sym}
use Rattle.std.proofs.Common.{subst, ◌∙◌, arith, append_assoc, fold, inl, inr, if◌then◌else◌}
use Rattle.std.specs.Prelude.{slice_index_or}
use Rattle.std.specs.List.{position_or_len}
use Rattle.std.specs.BTreeMap.{insert_entry, is_at}
use Rattle.std.specs.List.Sorted.{IsStrictlySortedBy}
use Rattle.std.specs.Map.{lookup, keys_of}
use Rattle.std.specs.Ordering.{nat_cmp}
use Rattle.std.specs.Str.{bytes_eq}
use Rattle.std.proofs.lemmas.Bool.{cond-true, cond-false, cases_eq, cases_lt, eq-eqb, ne_eqb, lt-ltb, false≢true, eqb-true}
use Rattle.std.proofs.lemmas.Bool.Decides.{nat_tests}
use Rattle.std.proofs.lemmas.List.{append-nil, map-append, length-map, take_at, get_or_at}
use Rattle.std.proofs.lemmas.List.Sums.{sum_by-cons, fails_before_first}
use Rattle.std.proofs.lemmas.Map.{length-set_value}
use Rattle.std.proofs.lemmas.Option.{slice_get_within, get_or_from_slice_get}
use Rattle.std.proofs.lemmas.Slice.Eq.{bytes_eq-Decides}
use Rattle.ring_base.specs.Prefixes.{prefix_get, prefix_append}
use Rattle.ring_base.specs.declared.fault.Fault.TheVariants.{Conflict, Stale, NumberGap, SessionsFull}
use Rattle.ring_base.proofs.ListPlaces.{get-last}
use Rattle.ring_object.specs.Operations.{Sequential, content_after}
use Rattle.ring_object.proofs.Contents.{content_after-append}
use Rattle.ring_payload.specs.declared.call.Call.{Call}
use Rattle.ring_session.specs.declared.answer.Answer.{Answer}
use Rattle.ring_session.specs.declared.answer.Answer.TheVariants.{Done, Kept}
use Rattle.ring_session.specs.Deduplicated.{is_of_client, count_of, client_count, max_clients, may_call, takes_effect, deduplicated, IsCallAt, operations}
use Rattle.ring_session.specs.DeduplicatedLaws.{count_of-push_own, count_of-push_other}
use Rattle.ring_session.specs.DeduplicatedLaws.{deduplicated-push, deduplicated-front, deduplicated-numbered}
use Rattle.ring_session.specs.DeduplicatedLaws.{numbered_once, takes_effect-number}
use Rattle.ring_session.specs.SessionAnswer.{refusal, is_same, repeated_call_answer, answer_after, call_reply, session_answer, is_done}
use Rattle.ring_session.specs.SessionAnswerLaws.{call_reply-front, position-is_same, session_answer-at, same_cases}
use Rattle.ring_session.specs.Table.{LastCall, Table, table_of, opening, session_of, last_number, last_call, has_room_for_client}
use Rattle.ring_session.specs.Table.{takes_effect_in_table, last_call_answer, answer_unless_next, table_answer, table_next, table_after}
use Rattle.ring_session.proofs.Entries.{set_value-known, length-new, lookup-insert_same, lookup-insert_other, sorted_none, sorted_insert}

-- ---- the content of a table

-- The client's last call, as a call.
abbrev pub as_call : {A : Type 0} → ℕ → LastCall → Call A
as_call client last = record { client = client; number = last.number; op = last.operation }

module _ {O : Type 0} (object : Sequential O) where
  -- The kept entry of a client is its last of these calls, with the reply at its place.
  abbrev pub IsLastOf : {A : Type 0} → List (Call A) → ℕ → Option LastCall → Type 0
  IsLastOf kept client None = count_of client kept ≡ 0
  IsLastOf kept client (Some last) = (last.number ≡ count_of client kept)
      × ((q : ℕ) × IsCallAt kept q (as_call client last) × (call_reply object kept q ≡ last.reply))

  -- The table holds the results of these calls, which took effect.
  pub record Holds {A : Type 0} (kept : List (Call A)) (table : Table O) : Type 0 where
    pub ascending : IsStrictlySortedBy nat_cmp (keys_of table.sessions)
    pub content : table.content ≡ content_after object object.initial (operations kept)
    pub many : length table.sessions ≡ client_count kept
    pub known : (client : ℕ) → IsLastOf kept client (session_of table client)

-- ---- one more call that takes effect

same_client : (t u m a b n : ℕ) → t ≡ a + 1 → u ≡ 1 + b → a ≡ b → m ≡ n + (if b == 0 then 1 else 0)
    → (if t == 0 then m + 1 else m) ≡ (if a == 0 then n + 1 else n) + (if u == 0 then 1 else 0)
same_client t u m a b n et eu ab em = grind (arith, nat_tests)

other_client : (t u m a b n : ℕ) → t ≡ a → u ≡ b → m ≡ n + (if b == 0 then 1 else 0) → (if t == 0 then m + 1 else m)
    ≡ (if a == 0 then n + 1 else n) + (if u == 0 then 1 else 0)
other_client t u m a b n et eu em = grind (arith, nat_tests)

-- One more client, if the call is its first.
client_count-push : {A : Type 0} (calls : List (Call A)) (c : Call A) → client_count (calls ++ c ∷ [])
    ≡ client_count calls + (if count_of c.client calls == 0 then 1 else 0)
client_count-push [] c = refl
client_count-push {A} (x ∷ cs) c =
    let rest : client_count (cs ++ c ∷ []) ≡ client_count cs + (if count_of c.client cs == 0 then 1 else 0) = client_count-push cs c in
    let front : count_of c.client (x ∷ cs) ≡ (if x.client == c.client then 1 else 0) + count_of c.client cs =
    sum_by-cons (λ (y : Call A). if is_of_client c.client y then 1 else 0) x cs in
    elim (cases_eq x.client c.client) [
      | inl same ↦
          let one : count_of c.client (x ∷ cs) ≡ 1 + count_of c.client cs = front ∙ ap (λ n. n + count_of c.client cs)
          (cond-true (x.client == c.client) 1 0 (eq-eqb x.client c.client same)) in
          let more : count_of x.client (cs ++ c ∷ []) ≡ count_of x.client cs + 1 = ap (λ k. count_of k (cs ++ c ∷ []))
          same ∙ count_of-push_own cs c ∙ ap (λ k. count_of k cs + 1) (sym same) in
          same_client (count_of x.client (cs ++ c ∷ [])) (count_of c.client (x ∷ cs)) (client_count (cs ++ c ∷ []))
          (count_of x.client cs) (count_of c.client cs) (client_count cs) more one (ap (λ k. count_of k cs) same) rest
      | inr ne ↦
          let none : count_of c.client (x ∷ cs) ≡ 0 + count_of c.client cs = front
          ∙ ap (λ n. n + count_of c.client cs)
          (cond-false (x.client == c.client) 1 0 (ne_eqb x.client c.client ne)) in
          let same : count_of x.client (cs ++ c ∷ []) ≡ count_of x.client cs = count_of-push_other x.client cs c (λ e. ne (sym e)) in
          other_client (count_of x.client (cs ++ c ∷ [])) (count_of c.client (x ∷ cs)) (client_count (cs ++ c ∷ []))
          (count_of x.client cs) (count_of c.client cs) (client_count cs) same (omega (arith, none)) rest
    ]

module _ {O A : Type 0} (object : Sequential O) where
  -- The reply to the last call.
  call_reply-push : (kept : List (Call A)) (c : Call A) → call_reply object (kept ++ c ∷ []) (length kept)
      ≡ object.reply (content_after object object.initial (operations kept)) c.op
  call_reply-push kept c =
      let ops : List (List ℕ) = operations kept in
      let split : operations (kept ++ c ∷ []) ≡ ops ++ c.op ∷ [] = map-append (λ (x : Call A). x.op) kept (c ∷ []) in
      let many : length ops ≡ length kept = length-map kept (λ (x : Call A). x.op) in
      ap (λ w. object.reply (content_after object object.initial (take (length kept) w)) (slice_index_or w (length kept) [])) split
      ∙ ap (λ w. object.reply (content_after object object.initial w) (slice_index_or (ops ++ c.op ∷ []) (length kept)
      [])) (take_at ops (c.op ∷ []) (length kept) many)
      ∙ ap (object.reply (content_after object object.initial ops)) (get_or_at ops c.op [] [] (length kept) many)

  -- ---- the tests of the list and of the table agree

  last_number-is : (kept : List (Call A)) (client : ℕ) (o : Option LastCall) → IsLastOf object kept client o → last_number o ≡ count_of client kept
  last_number-is kept client None is = sym is
  last_number-is kept client (Some last) is = is.0

  known-is : (calls : List (Call A)) (client : ℕ) (o : Option LastCall) → IsLastOf object (deduplicated calls)
      client o → is_some o ≡ nat_lt 0 (count_of client (deduplicated calls))
  known-is calls client None is = ap (nat_lt 0) (sym is)
  known-is calls client (Some last) is =
      let number = deduplicated-numbered calls is.1.0 (as_call client last) is.1.1 in
      sym (lt-ltb 0 (count_of client (deduplicated calls)) (omega (arith, is.0, number)))

  room-is : (calls : List (Call A)) (table : Table O) (client : ℕ) → Holds object (deduplicated calls) table
      → has_room_for_client table client ≡ may_call (deduplicated calls) client
  room-is calls table client holds =
      ap (λ b. b || nat_lt (length table.sessions) max_clients) (known-is calls client (session_of table client) (holds.known client))
      ∙ ap (λ n. nat_lt 0 (count_of client (deduplicated calls)) || nat_lt n max_clients) holds.many

  taken-is : (calls : List (Call A)) (table : Table O) (c : Call A) → Holds object (deduplicated calls) table
      → takes_effect_in_table table c ≡ takes_effect (deduplicated calls) c
  taken-is calls table c holds =
      ap (λ n. (c.number == n + 1) && has_room_for_client table c.client) (last_number-is (deduplicated calls) c.client (session_of table c.client) (holds.known c.client))
      ∙ ap (λ b. (c.number == count_of c.client (deduplicated calls) + 1) && b) (room-is calls table c.client holds)

  -- ---- a call

  -- A call that takes effect is its client's last of those that did.
  last-same : (calls : List (Call A)) (c : Call A) → takes_effect (deduplicated calls) c ≡ true
      → IsLastOf object (deduplicated calls ++ c ∷ []) c.client
      (Some (last_call c (object.reply (content_after object object.initial (operations (deduplicated calls))) c.op)))
  last-same calls c taken =
      let kept = deduplicated calls in
      (takes_effect-number kept c taken ∙ sym (count_of-push_own kept c), (length kept, get-last kept c, call_reply-push kept c))

  -- It leaves each other client's last call unchanged.
  last-other : (kept : List (Call A)) (c : Call A) (client : ℕ) (o : Option LastCall) → (client ≡ c.client → ⊥)
      → IsLastOf object kept client o → IsLastOf object (kept ++ c ∷ []) client o
  last-other kept c client None ne is =
      count_of-push_other client kept c (λ same. ne (sym same)) ∙ is
  last-other kept c client (Some last) ne is =
      let q = is.1.0 in (
        is.0 ∙ sym (count_of-push_other client kept c (λ same. ne (sym same))),
        (
          q,
          prefix_get kept (kept ++ c ∷ []) q (as_call client last) (prefix_append kept (c ∷ [])) is.1.1,
          call_reply-front object kept (kept ++ c ∷ []) q (prefix_append kept (c ∷ [])) (slice_get_within kept q (as_call client last) is.1.1) ∙ is.1.2,
        ),
      )

  -- ---- the table after a call

  known-grown : (calls : List (Call A)) (table : Table O) (c : Call A) → Holds object (deduplicated calls) table
      → (o : Option LastCall) → session_of table c.client ≡ o
      → length (insert_entry nat_cmp table.sessions c.client (last_call c (object.reply table.content c.op)))
      ≡ length table.sessions + (if count_of c.client (deduplicated calls) == 0 then 1 else 0)
  known-grown calls table c holds None is =
      let none : count_of c.client (deduplicated calls) ≡ 0 = subst (IsLastOf object (deduplicated calls) c.client) is (holds.known c.client) in
      length-new table.sessions c.client (last_call c (object.reply table.content c.op)) is
      ∙ ap (λ n. length table.sessions + n)
      (sym (cond-true (count_of c.client (deduplicated calls) == 0) 1 0
      (eq-eqb (count_of c.client (deduplicated calls)) 0 none)))
  known-grown calls table c holds (Some last) is =
      let there : IsLastOf object (deduplicated calls) c.client (Some last) = subst (IsLastOf object (deduplicated calls) c.client) is (holds.known c.client) in
      let number = deduplicated-numbered calls there.1.0 (as_call c.client last) there.1.1 in
      let some : count_of c.client (deduplicated calls) ≡ 0 → ⊥ = λ none. omega (arith, there.0, number, none) in
      let same : length (insert_entry nat_cmp table.sessions c.client (last_call c (object.reply table.content c.op))) ≡ length table.sessions =
      ap length (sym (set_value-known table.sessions c.client (last_call c (object.reply table.content c.op))
      last holds.ascending is)) ∙ length-set_value (is_at (nat_cmp c.client)) table.sessions
      (last_call c (object.reply table.content c.op)) in
      let plain : length table.sessions ≡ length table.sessions + 0 = omega arith in
      same ∙ plain ∙ ap (λ n. length table.sessions + n)
      (sym (cond-false (count_of c.client (deduplicated calls) == 0) 1 0
      (ne_eqb (count_of c.client (deduplicated calls)) 0 some)))

  holds-taken : (calls : List (Call A)) (table : Table O) (c : Call A) → Holds object (deduplicated calls) table → takes_effect (deduplicated calls) c ≡ true
      → Holds object (deduplicated calls ++ c ∷ [])
      (table_of (insert_entry nat_cmp table.sessions c.client (last_call c (object.reply table.content c.op)))
      (object.next table.content c.op))
  holds-taken calls table c holds taken =
      let kept = deduplicated calls in
      let new : LastCall = last_call c (object.reply table.content c.op) in
      let own : IsLastOf object (kept ++ c ∷ []) c.client (Some new) =
      subst (λ (o : O). IsLastOf object (kept ++ c ∷ []) c.client (Some (last_call c (object.reply o c.op)))) (sym holds.content) (last-same calls c taken) in
      record {
        ascending = sorted_insert table.sessions c.client new holds.ascending;
        content =
            ap (λ (o : O). object.next o c.op) holds.content
            ∙ sym (content_after-append object object.initial (operations kept) (c.op ∷ []))
            ∙ ap (content_after object object.initial) (sym (map-append (λ (x : Call A). x.op) kept (c ∷ [])));
        many = known-grown calls table c holds (session_of table c.client) refl
            ∙ ap (λ n. n + (if count_of c.client kept == 0 then 1 else 0)) holds.many ∙ sym (client_count-push kept c);
        known = λ client. elim (cases_eq client c.client) [
          | inl same ↦
              let here : session_of (table_of (insert_entry nat_cmp table.sessions c.client new) (object.next table.content c.op)) client ≡ Some new =
              ap (λ k. lookup (is_at (nat_cmp k)) (insert_entry nat_cmp table.sessions c.client new)) same ∙ lookup-insert_same table.sessions c.client new in
              subst (IsLastOf object (kept ++ c ∷ []) client) (sym here) (subst (λ k. IsLastOf object (kept ++ c ∷ []) k (Some new)) (sym same) own)
          | inr ne ↦
              subst (IsLastOf object (kept ++ c ∷ []) client)
              (sym (lookup-insert_other table.sessions c.client client new ne))
              (last-other kept c client (session_of table client) ne (holds.known client))
        ];
      }

  holds-step : (calls : List (Call A)) (table : Table O) (c : Call A) (b : Bool) → takes_effect (deduplicated calls) c
      ≡ b → Holds object (deduplicated calls) table
      → Holds object (deduplicated calls ++ (if b then c ∷ [] else []))
      (if b then table_of (insert_entry nat_cmp table.sessions c.client
      (last_call c (object.reply table.content c.op))) (object.next table.content c.op) else table)
  holds-step calls table c true is holds = holds-taken calls table c holds is
  holds-step calls table c false is holds = subst (λ w. Holds object w table) (sym (append-nil (deduplicated calls))) holds

  holds-next : (calls : List (Call A)) (table : Table O) (c : Call A) → Holds object (deduplicated calls) table
      → Holds object (deduplicated (calls ++ c ∷ [])) (table_next object table c)
  holds-next calls table c holds =
      let kept = deduplicated calls in
      let taken : Table O = table_of (insert_entry nat_cmp table.sessions c.client
      (last_call c (object.reply table.content c.op))) (object.next table.content c.op) in
      let step = holds-step calls table c (takes_effect kept c) refl holds in
      let same : (if takes_effect kept c then taken else table) ≡ table_next object table c =
      ap (λ (b : Bool). if b then taken else table) (sym (taken-is calls table c holds)) in
      subst (λ w. Holds object w (table_next object table c)) (sym (deduplicated-push calls c))
      (subst (Holds object (kept ++ (if takes_effect kept c then c ∷ [] else []))) same step)

  holds-fold : (before calls : List (Call A)) (table : Table O) → Holds object (deduplicated before) table
      → Holds object (deduplicated (before ++ calls)) (fold (table_next object) table calls)
  holds-fold before [] table holds = subst (λ w. Holds object (deduplicated w) table) (sym (append-nil before)) holds
  holds-fold before (c ∷ cs) table holds =
      subst (λ w. Holds object (deduplicated w) (fold (table_next object) (table_next object table c) cs)) (append_assoc before (c ∷ []) cs)
      (holds-fold (before ++ c ∷ []) cs (table_next object table c) (holds-next before table c holds))

  -- The table after a list of calls holds the results of those that took effect.
  pub table_holds : (calls : List (Call A)) → Holds object (deduplicated calls) (table_after object calls)
  table_holds calls = holds-fold [] calls (opening object.initial) (record { ascending = sorted_none; content = refl; many = refl; known = λ client. refl })

-- ---- the answers

no_place : {X : Type 0} (p : X → Bool) (xs : List X) → position p xs ≡ None → (k : ℕ) (d : X) → k < length xs → p (get_or xs k d) ≡ true → ⊥
no_place p xs none k d within passes =
    elim (cases_lt k (position_or_len p xs)) [
      | inl before ↦ false≢true (sym (fails_before_first p xs k d before) ∙ passes)
      | inr past ↦
          let first = position_or_len p xs in
          let there : position p xs ≡ Some first = cond-true (nat_lt first (length xs)) (Some first) None
          (lt-ltb first (length xs) (omega (arith, within, past))) in
          absurd (cc (none, there))
    ]

module _ {O A : Type 0} (object : Sequential O) where
  -- A call with its client's last number gets the kept reply, if it is the kept call.
  kept_known : (calls : List (Call A)) (replies : ℕ → List ℕ) (c : Call A)
      → ((q : ℕ) → q < length (deduplicated calls) → replies q ≡ call_reply object (deduplicated calls) q)
      → (last : LastCall) → IsLastOf object (deduplicated calls) c.client (Some last) → c.number ≡ last.number
      → (place : Option ℕ) → position (is_same c) (deduplicated calls) ≡ place → (b : Bool) → bytes_eq last.operation c.op ≡ b
      → repeated_call_answer replies place ≡ (if b then Kept last.reply else refusal Conflict)
  kept_known calls replies c same last is number None at true bytes =
      let kept = deduplicated calls in
      let mine : Call A = as_call c.client last in
      let one : is_same c mine ≡ true =
      ap (λ x. x && (last.number == c.number) && bytes_eq last.operation c.op) (eq-eqb c.client c.client refl)
      ∙ ap (λ x. true && x && bytes_eq last.operation c.op) (eq-eqb last.number c.number (sym number))
      ∙ ap (λ x. true && true && x) bytes in
      let here : get_or kept is.1.0 c ≡ mine = get_or_from_slice_get kept is.1.0 mine c is.1.1 in
      absurd (no_place (is_same c) kept at is.1.0 c (slice_get_within kept is.1.0 mine is.1.1) (ap (is_same c) here ∙ one))
  kept_known calls replies c same last is number (Some q) at true bytes =
      let kept = deduplicated calls in
      let stands = position-is_same kept c q at in
      let place : q ≡ is.1.0 = numbered_once kept (deduplicated-numbered calls) q is.1.0 c (as_call c.client last) stands is.1.1 refl number in
      ap Kept (same q (slice_get_within kept q c stands) ∙ ap (call_reply object kept) place ∙ is.1.2)
  kept_known calls replies c same last is number None at false bytes = refl
  kept_known calls replies c same last is number (Some q) at false bytes =
      let kept = deduplicated calls in
      let stands = position-is_same kept c q at in
      let place : q ≡ is.1.0 = numbered_once kept (deduplicated-numbered calls) q is.1.0 c (as_call c.client last) stands is.1.1 refl number in
      let both : Some c ≡ Some (as_call c.client last) = sym stands ∙ ap (slice_get kept) place ∙ is.1.1 in
      let one : c ≡ as_call c.client last = cc both in
      absurd (false≢true (sym bytes ∙ (bytes_eq-Decides last.operation c.op).1 (sym (ap (λ (x : Call A). x.op) one))))

  kept_same : (calls : List (Call A)) (replies : ℕ → List ℕ) (c : Call A) → ((q : ℕ) → q < length (deduplicated calls)
      → replies q ≡ call_reply object (deduplicated calls) q)
      → (o : Option LastCall) → IsLastOf object (deduplicated calls) c.client o → c.number ≡ count_of c.client (deduplicated calls)
      → (place : Option ℕ) → position (is_same c) (deduplicated calls) ≡ place → repeated_call_answer replies place ≡ last_call_answer o c.op
  kept_same calls replies c same None is number None at = refl
  kept_same calls replies c same None is number (Some q) at =
      let counted = deduplicated-numbered calls q c (position-is_same (deduplicated calls) c q at) in
      absurd (omega (arith, number, is, counted))
  kept_same calls replies c same (Some last) is number place at = kept_known calls replies c same last is
      (number ∙ sym is.0) place at (bytes_eq last.operation c.op) refl

  -- The table's answer, by the tests of the list.
  by_list : List (Call A) → Table O → Call A → ℕ → Bool → Answer
  by_list kept table c last room =
      if c.number == last + 1 then (if room then Done (object.reply table.content c.op) else refusal SessionsFull)
      else if c.number == last then last_call_answer (session_of table c.client) c.op
      else if nat_lt c.number last then refusal Stale
      else refusal NumberGap

  -- The answer to the call after a list of calls.
  answer-holds : (calls : List (Call A)) (table : Table O) (c : Call A) → Holds object (deduplicated calls) table
      → session_answer object (calls ++ c ∷ []) (length calls) ≡ Some (table_answer object table c)
  unfolding by_list
  answer-holds calls table c holds =
      let kept = deduplicated calls in
      let last = count_of c.client kept in
      let all = deduplicated (calls ++ c ∷ []) in
      let replies : ℕ → List ℕ = call_reply object all in
      let before : (q : ℕ) → q < length kept → replies q ≡ call_reply object kept q =
      λ q within. call_reply-front object kept all q (deduplicated-front calls (calls ++ c ∷ []) (prefix_append calls (c ∷ []))) within in
      let own : takes_effect kept c ≡ true → replies (length kept) ≡ object.reply table.content c.op =
      λ taken. ap (λ w. call_reply object w (length kept)) (deduplicated-push calls c ∙ ap (λ w. kept ++ w) (cond-true (takes_effect kept c) (c ∷ []) [] taken))
      ∙ call_reply-push object kept c ∙ ap (λ (o : O). object.reply o c.op) (sym holds.content) in
      let listed : answer_after replies kept c ≡ by_list kept table c last (may_call kept c.client) =
      same_cases (c.number == last + 1) (may_call kept c.client) (c.number == last) (nat_lt c.number last)
      (replies (length kept)) (object.reply table.content c.op)
      (repeated_call_answer replies (position (is_same c) kept)) (last_call_answer (session_of table c.client) c.op) own
      (λ is_last. kept_same calls replies c before (session_of table c.client) (holds.known c.client)
      (eqb-true c.number last is_last) (position (is_same c) kept) refl) in
      let tested : by_list kept table c last (may_call kept c.client) ≡ table_answer object table c =
      ap (λ n. by_list kept table c n (may_call kept c.client)) (sym (last_number-is object kept c.client (session_of table c.client) (holds.known c.client)))
      ∙ ap (by_list kept table c (last_number (session_of table c.client))) (sym (room-is object calls table c.client holds)) in
      session_answer-at object (calls ++ c ∷ []) (length calls) c (get-last calls c)
      ∙ ap (λ w. Some (answer_after replies (deduplicated w) c)) (take_at calls (c ∷ []) (length calls) refl)
      ∙ ap Some (listed ∙ tested)

  -- The table after a list of calls gives the next call the answer of the list.
  pub table_answers : (calls : List (Call A)) (c : Call A) → session_answer object (calls ++ c ∷ []) (length calls)
      ≡ Some (table_answer object (table_after object calls) c)
  table_answers calls c = answer-holds calls (table_after object calls) c (table_holds object calls)

  -- Its object has the content after the calls that took effect.
  pub table_content : (calls : List (Call A)) → (table_after object calls).content ≡ content_after object object.initial (operations (deduplicated calls))
  table_content calls = (table_holds object calls).content

  -- So the answers of the table after a list of calls are those that the list determines.
  pub answer_told : (calls : List (Call A)) (table : Table O) (c : Call A) (a : Answer) → table ≡ table_after object calls → a ≡ table_answer object table c
      → session_answer object (calls ++ c ∷ []) (length calls) ≡ Some a
  answer_told calls table c a after answer = table_answers calls c ∙ ap (λ t. Some (table_answer object t c)) (sym after) ∙ ap Some (sym answer)

-- ---- the answer of a call that takes effect

kept_not-done : (b : Bool) (reply : List ℕ) → is_done (if b then Kept reply else refusal Conflict) ≡ false
kept_not-done true reply = refl
kept_not-done false reply = refl

last_not-done : (last : Option LastCall) (operation : List ℕ) → is_done (last_call_answer last operation) ≡ false
last_not-done None operation = refl
last_not-done (Some last) operation = kept_not-done (bytes_eq last.operation operation) last.reply

other_not-done : (again old : Bool) (kept : Answer) → is_done kept ≡ false
    → is_done (if again then kept else if old then refusal Stale else refusal NumberGap) ≡ false
other_not-done true old kept e = e
other_not-done false true kept e = refl
other_not-done false false kept e = refl

done_where : (following room : Bool) (reply : List ℕ) (other : Answer) → is_done other ≡ false
    → is_done (if following then (if room then Done reply else refusal SessionsFull) else other) ≡ following && room
done_where true true reply other e = refl
done_where true false reply other e = refl
done_where false room reply other e = e

module _ {O A : Type 0} (object : Sequential O) where
  -- A table answers `Done` exactly if the call is taken.
  pub done-taken : (table : Table O) (c : Call A) → is_done (table_answer object table c) ≡ takes_effect_in_table table c
  done-taken table c =
      let last = session_of table c.client in
      let apart : is_done (answer_unless_next last c) ≡ false = other_not-done (c.number == last_number last)
      (nat_lt c.number (last_number last)) (last_call_answer last c.op) (last_not-done last c.op) in
      done_where (c.number == last_number last + 1) (has_room_for_client table c.client) (object.reply table.content c.op) (answer_unless_next last c) apart

  -- So after a list of calls it answers `Done` exactly if the call takes effect.
  pub table_effect : (calls : List (Call A)) (c : Call A) → is_done (table_answer object (table_after object calls) c) ≡ takes_effect (deduplicated calls) c
  table_effect calls c =
      let table = table_after object calls in
      done-taken table c ∙ taken-is object calls table c (table_holds object calls)
