-- A ticket's call can equal a call only at the positions of the call's bucket; the positions between give no answer.
use Rattle.std.proofs.Common.{◌≡◌, ℕ, zero, suc, ◌+◌, ◌-◌, ◌<◌, ◌≤◌, ◌==◌, ◌≢◌, ◌&&◌, ◌||◌, Bool, true, false, not, List, [], ◌∷◌, ◌++◌, length, drop}
use Rattle.std.proofs.Common.{Some, slice_get, get_or, replicate, append_assoc, refl, ap, sym, ◌∙◌, subst, arith, ◌⊎◌, inl, inr, if◌then◌else◌}
use Rattle.std.specs.Prelude.{slice_index, slice_index_or}
use Rattle.std.proofs.lemmas.Bool.{eqb-true, eqb-false, eq-eqb, cond-true, cond-false, cases_lt}
use Rattle.std.proofs.lemmas.List.{drop_all, get_or-replicate, length-drop}
use Rattle.std.proofs.lemmas.List.Folds.{list_any-append}
use Rattle.std.proofs.lemmas.Option.{slice_get_within, slice_get_read, get_or_from_slice_get}
use Rattle.std.specs.List.{SwappedAt}
use Rattle.std.proofs.lemmas.List.Filters.{FiltersInPlace, FiltersInPlace-more_no, FiltersInPlace-more_swap}
use Rattle.ring_base.proofs.Rows.{drop-next}
use Rattle.ring_base.proofs.Cases.{or-false}
use Rattle.ring_object.specs.Operations.{Sequential}
use Rattle.ring_payload.specs.declared.call.Call.{Call}
use Rattle.ring_session.specs.declared.answer.Answer.{Answer}
use Rattle.ring_session.specs.declared.ticket_answer.TicketAnswer.{TicketAnswer}
use Rattle.ring_session.specs.declared.pending_ticket.PendingTicket.{PendingTicket}
use Rattle.ring_session.specs.SessionAnswer.{is_same}
use Rattle.ring_session.specs.SessionAnswerLaws.{is_same-true}
use Rattle.ring_session.specs.TicketsState.{contains_call, answer_for, answers_to, answers_after_committed, unanswered_by}
use Rattle.ring_session.specs.Table.{Table, table_next}
use Rattle.ring_session.specs.Buckets.{bucket_of, first_in_bucket_from, AreChained, AreCommitted, AreCommittedTo, HasNoTicketOf, IsInBucketOf}

-- ---- cases of numbers

nat_cases-by : (m n : ℕ) (t : Bool) → (m == n) ≡ t → (m ≡ n) ⊎ (m ≢ n)
nat_cases-by m n true e = inl (eqb-true m n e)
nat_cases-by m n false e = inr (eqb-false m n e)

nat_cases : (m n : ℕ) → (m ≡ n) ⊎ (m ≢ n)
nat_cases m n = nat_cases-by m n (m == n) refl

-- ---- positions of a bucket

least-if : (here : Bool) (i k : ℕ) → i + 1 ≤ k → i ≤ (if here then i else k)
least-if true i k le = omega arith
least-if false i k le = omega (arith, le)

most-if : (here : Bool) (i k n : ℕ) → k ≤ i + 1 + n → (if here then i else k) ≤ i + suc n
most-if true i k n le = omega arith
most-if false i k n le = omega (arith, le)

module _ {A : Type 0} (b : ℕ) where
  pub first_in_bucket_from-least : (i : ℕ) (ps : List (PendingTicket A)) → i ≤ first_in_bucket_from b i ps
  first_in_bucket_from-least i [] = omega arith
  first_in_bucket_from-least i (p ∷ ps) = least-if (bucket_of p.call == b) i (first_in_bucket_from b (i + 1) ps) (first_in_bucket_from-least (i + 1) ps)

  pub first_in_bucket_from-most : (i : ℕ) (ps : List (PendingTicket A)) → first_in_bucket_from b i ps ≤ i + length ps
  first_in_bucket_from-most i [] = omega arith
  first_in_bucket_from-most i (p ∷ ps) = most-if (bucket_of p.call == b) i (first_in_bucket_from b (i + 1) ps) (length ps) (first_in_bucket_from-most (i + 1) ps)

  first-bucket : (i : ℕ) (p : PendingTicket A) (ps : List (PendingTicket A)) → i ≡ first_in_bucket_from b i (p ∷ ps) → (t : Bool) → (bucket_of p.call == b) ≡ t → bucket_of p.call ≡ b
  first-bucket i p ps at true is = eqb-true (bucket_of p.call) b is
  first-bucket i p ps at false is =
      let on = cond-false (bucket_of p.call == b) i (first_in_bucket_from b (i + 1) ps) is in
      absurd (omega (arith, at, on, first_in_bucket_from-least (i + 1) ps))

  later-place : (i j : ℕ) (p : PendingTicket A) (ps : List (PendingTicket A)) → i + suc j ≤ first_in_bucket_from b i (p ∷ ps) → (t : Bool) → (bucket_of p.call == b) ≡ t
      → first_in_bucket_from b i (p ∷ ps) ≡ first_in_bucket_from b (i + 1) ps
  later-place i j p ps at true is = let on = cond-true (bucket_of p.call == b) i (first_in_bucket_from b (i + 1) ps) is in absurd (omega (arith, at, on))
  later-place i j p ps at false is = cond-false (bucket_of p.call == b) i (first_in_bucket_from b (i + 1) ps) is

  first-another : (i : ℕ) (p : PendingTicket A) (ps : List (PendingTicket A)) → i < first_in_bucket_from b i (p ∷ ps) → (t : Bool) → (bucket_of p.call == b) ≡ t → t ≡ false
  first-another i p ps at true is = let on = cond-true (bucket_of p.call == b) i (first_in_bucket_from b (i + 1) ps) is in absurd (omega (arith, at, on))
  first-another i p ps at false is = refl

  -- The ticket at a position of the bucket is in the bucket.
  pub of-bucket : (i j : ℕ) (ps : List (PendingTicket A)) (p : PendingTicket A) → i + j ≡ first_in_bucket_from b i ps → slice_get ps j ≡ Some p → bucket_of p.call ≡ b
  of-bucket i j [] p at e = absurd (cc e)
  of-bucket i zero (q ∷ ps) p at e =
      let one : q ≡ p = cc e in
      ap (λ (x : PendingTicket A). bucket_of x.call) (sym one) ∙ first-bucket i q ps (omega (arith, at)) (bucket_of q.call == b) refl
  of-bucket i (suc j) (q ∷ ps) p at e =
      let on = later-place i j q ps (omega (arith, at)) (bucket_of q.call == b) refl in
      of-bucket (i + 1) j ps p (omega (arith, at, on)) e

  -- The ticket at a position before it isn't.
  pub of-another : (i j : ℕ) (ps : List (PendingTicket A)) (p : PendingTicket A) → i + j < first_in_bucket_from b i ps → slice_get ps j ≡ Some p
      → (bucket_of p.call == b) ≡ false
  of-another i j [] p at e = absurd (cc e)
  of-another i zero (q ∷ ps) p at e =
      let one : q ≡ p = cc e in
      ap (λ (x : PendingTicket A). bucket_of x.call == b) (sym one) ∙ first-another i q ps (omega (arith, at)) (bucket_of q.call == b) refl
  of-another i (suc j) (q ∷ ps) p at e =
      let on = later-place i j q ps (omega (arith, at)) (bucket_of q.call == b) refl in
      of-another (i + 1) j ps p (omega (arith, at, on)) e

-- Indexing the rest of a list.
get-drop : {X : Type 0} (i j : ℕ) (xs : List X) → slice_get (drop i xs) j ≡ slice_get xs (i + j)
get-drop zero j xs = ap (slice_get xs) (let e : j ≡ 0 + j = omega arith in e)
get-drop (suc i) j [] = refl
get-drop (suc i) j (x ∷ xs) = get-drop i j xs ∙ ap (slice_get (x ∷ xs)) (let e : suc (i + j) ≡ suc i + j = omega arith in e)

no-more : (b same : Bool) → same ≡ false → b ≡ (b || same)
no-more true same e = refl
no-more false same e = sym e

-- Two calls in different buckets are different.
not-same : {A : Type 0} (c d : Call A) → (bucket_of d == bucket_of c) ≡ false → (t : Bool) → is_same d c ≡ t → t ≡ false
not-same c d other false e = refl
not-same {A} c d other true e =
    let same : c ≡ d = is_same-true d c e in
    let one = eq-eqb (bucket_of d) (bucket_of c) (ap (λ (x : Call A). bucket_of x) (sym same)) in
    absurd (cc (sym one ∙ other))

-- The rest of a list from a position on begins with the element at that position.
drop-some : {X : Type 0} (i : ℕ) (xs : List X) → i < length xs → (x : X) × (slice_get xs i ≡ Some x) × (drop i xs ≡ x ∷ drop (i + 1) xs)
drop-some i [] lt = absurd (omega (arith, lt))
drop-some zero (x ∷ xs) lt = (x, refl, refl)
drop-some (suc i) (x ∷ xs) lt =
    let rest = drop-some i xs (omega (arith, lt)) in
    (rest.0, rest.1, rest.2 ∙ ap (λ k. rest.0 ∷ drop k (x ∷ xs)) (let e : suc (i + 1) ≡ suc i + 1 = omega arith in e))

-- The answer to one more ticket.
answer_for-not : {A : Type 0} (before : List (Call A)) (c : Call A) (a : Answer) (p : PendingTicket A) → is_same p.call c ≡ false → answer_for before c a p ≡ []
answer_for-not {A} before c a p other =
    let told : List (TicketAnswer A) = record { ticket = p.ticket; call = p.call; answer = a } ∷ [] in
    ap (λ b. if b && not (contains_call before p.call) then told else []) other

module _ {A : Type 0} (pending : List (PendingTicket A)) where
  -- A ticket of another call gives none.
  answers-pass : (before : List (Call A)) (c : Call A) (a : Answer) (i : ℕ) → i < length pending
      → ((p : PendingTicket A) → slice_get pending i ≡ Some p → is_same p.call c ≡ false)
      → answers_to before c a (drop i pending) ≡ answers_to before c a (drop (i + 1) pending)
  answers-pass before c a i within none =
      let split = drop-some i pending within in
      let p : PendingTicket A = split.0 in
      ap (answers_to before c a) split.2
      ∙ ap (λ w. w ++ answers_to before c a (drop (i + 1) pending)) (answer_for-not before c a p (none p split.1))

  -- At a position of the bucket.
  pub at-bucket : (b i k : ℕ) → k ≡ first_in_bucket_from b i (drop i pending) → (p : PendingTicket A) → slice_get pending k ≡ Some p → bucket_of p.call ≡ b
  at-bucket b i k is p e =
      let least = first_in_bucket_from-least b i (drop i pending) in
      let same : i + (k - i) ≡ k = omega (arith, is, least) in
      of-bucket b i (k - i) (drop i pending) p (same ∙ is) (get-drop i (k - i) pending ∙ ap (slice_get pending) same ∙ e)

  -- A call is at no position before its bucket's first.
  pub none-before : (c : Call A) (i k : ℕ) → k ≡ first_in_bucket_from (bucket_of c) i (drop i pending) → HasNoTicketOf c i k pending
  none-before c i k is = λ j p e le lt.
      let same : i + (j - i) ≡ j = omega (arith, le) in
      let other = of-another (bucket_of c) i (j - i) (drop i pending) p (omega (arith, same, is, lt))
      (get-drop i (j - i) pending ∙ ap (slice_get pending) same ∙ e) in
      not-same c p.call other (is_same p.call c) refl

  -- ---- the tickets of committed calls

  -- Up to the first position of a call's bucket.
  pub gone-start : (gone : List Bool) (before : List (Call A)) (c : Call A) (k : ℕ) → AreCommitted gone before pending → HasNoTicketOf c 0 k pending
      → AreCommittedTo gone before c k pending
  gone-start gone before c k are none =
      record {
        behind = λ j p e lt. are j p e ∙ no-more (contains_call before p.call) (is_same p.call c) (none j p e (omega arith) lt);
        ahead = λ j p e le. are j p e;
      }

  -- One more position, and up to the next of the bucket.
  pub gone-step : (gone gone' : List Bool) (before : List (Call A)) (c : Call A) (i k : ℕ) (p : PendingTicket A) (same : Bool) → i < length pending
      → p ≡ get_or pending i p → same ≡ is_same p.call c → slice_index_or gone' i false ≡ (slice_index_or gone i false || same)
      → ((j : ℕ) → j ≢ i → slice_index_or gone' j false ≡ slice_index_or gone j false) → i < k → HasNoTicketOf c (i + 1) k pending
      → AreCommittedTo gone before c i pending → AreCommittedTo gone' before c k pending
  gone-step gone gone' before c i k p same within is of_p this others on none are =
      record {
        behind = λ j q e lt. elim (nat_cases j i) [
          | inl at ↦ here j q e at
          | inr apart ↦ others j apart ∙ elsewhere j q e lt apart (cases_lt j i)
        ];
        ahead = λ j q e le. let apart : j ≢ i = omega (arith, le, on) in others j apart ∙ are.ahead j q e (omega (arith, le, on));
      }
    where
      here : (j : ℕ) (q : PendingTicket A) → slice_get pending j ≡ Some q → j ≡ i → slice_index_or gone' j false ≡ (contains_call before q.call || is_same q.call c)
      here j q e at =
          let found = slice_get_read pending (length pending) i p refl within is in
          let one : p ≡ q = cc (sym found ∙ ap (slice_get pending) (sym at) ∙ e) in
          ap (λ n. slice_index_or gone' n false) at ∙ this
          ∙ ap (λ b. b || same) (are.ahead i p found (omega arith)) ∙ ap (λ b. contains_call before p.call || b) of_p
          ∙ ap (λ (x : PendingTicket A). contains_call before x.call || is_same x.call c) one

      elsewhere : (j : ℕ) (q : PendingTicket A) → slice_get pending j ≡ Some q → j < k → j ≢ i → (j < i) ⊎ (i ≤ j)
          → slice_index_or gone j false ≡ (contains_call before q.call || is_same q.call c)
      elsewhere j q e lt apart (inl before_i) = are.behind j q e before_i
      elsewhere j q e lt apart (inr behind_i) =
          are.ahead j q e behind_i
          ∙ no-more (contains_call before q.call) (is_same q.call c) (none j q e (omega (arith, behind_i, apart)) lt)

  -- At the end.
  pub gone-end : (gone : List Bool) (before : List (Call A)) (c : Call A) (k : ℕ) → length pending ≤ k → AreCommittedTo gone before c k pending
      → AreCommitted gone (before ++ c ∷ []) pending
  gone-end gone before c k le are = λ j p e.
      are.behind j p e (let within = slice_get_within pending j p e in omega (arith, within, le))
      ∙ ap (λ b. contains_call before p.call || b) (sym (or-false (is_same p.call c)))
      ∙ sym (list_any-append (is_same p.call) before (c ∷ []))

  -- ---- the answers

  -- Tickets of other calls give none.
  pub answers-jump : (before : List (Call A)) (c : Call A) (a : Answer) (n i k : ℕ) → i + n ≡ k → k ≤ length pending → HasNoTicketOf c i k pending
      → answers_to before c a (drop i pending) ≡ answers_to before c a (drop k pending)
  answers-jump before c a zero i k is le none = ap (λ m. answers_to before c a (drop m pending)) (omega (arith, is))
  answers-jump before c a (suc n) i k is le none =
      answers-pass before c a i (omega (arith, is, le)) (λ p e. none i p e (omega arith) (omega (arith, is)))
      ∙ answers-jump before c a n (i + 1) k (omega (arith, is)) le (λ j p e l lt. none j p e (omega (arith, l)) lt)

-- ---- building the chains

-- No position of a list of failed tests is marked.
pub none-marked : (n j : ℕ) → slice_index_or (replicate n false) j false ≡ false
none-marked zero j = refl
none-marked (suc n) zero = refl
none-marked (suc n) (suc j) = none-marked n j

module _ {A : Type 0} (pending : List (PendingTicket A)) where
  -- Of no ticket.
  pub chain-start : (nexts : List ℕ) (n : ℕ) → n ≡ length pending → AreChained (replicate 256 n) nexts n pending
  chain-start nexts n long =
      let nothing : drop n pending ≡ [] = drop_all n pending (omega (arith, long)) in
      record {
        first = λ b lt. get_or-replicate 256 b n 0 lt ∙ ap (first_in_bucket_from b n) (sym nothing);
        next = λ j p le e. let within = slice_get_within pending j p e in absurd (omega (arith, within, le, long));
      }

  -- One more ticket, before the others.
  pub chain-step : (firsts nexts firsts' nexts' : List ℕ) (m i k : ℕ) (p : PendingTicket A) → m ≡ i + 1 → i < length pending → p ≡ get_or pending i p
      → k ≡ bucket_of p.call → AreChained firsts nexts m pending → slice_index firsts' k ≡ i → ((b : ℕ) → b ≢ k → slice_index firsts' b ≡ slice_index firsts b)
      → slice_index nexts' i ≡ slice_index firsts k → ((j : ℕ) → j ≢ i → slice_index nexts' j ≡ slice_index nexts j)
      → k < 256 → AreChained firsts' nexts' i pending
  chain-step firsts nexts firsts' nexts' m i k p more within is of_p chained here others next other_next room =
      record {
        first = λ b lt. first_at b lt (bucket_of p.call == b) refl;
        next = λ j q le e. elim (nat_cases j i) [
          | inl same ↦ next_here j q same e
          | inr other ↦ other_next j other ∙ are.next j q (omega (arith, le, other)) e
        ];
      }
    where
      are : AreChained firsts nexts (i + 1) pending
      are = subst (λ n. AreChained firsts nexts n pending) more chained

      rest : drop i pending ≡ p ∷ drop (i + 1) pending
      rest = drop-next pending i p within is

      from : (b : ℕ) → first_in_bucket_from b i (drop i pending) ≡ (if bucket_of p.call == b then i else first_in_bucket_from b (i + 1) (drop (i + 1) pending))
      from b = ap (first_in_bucket_from b i) rest

      first_at : (b : ℕ) → b < 256 → (t : Bool) → (bucket_of p.call == b) ≡ t → slice_index firsts' b ≡ first_in_bucket_from b i (drop i pending)
      first_at b lt true same =
          let at : b ≡ k = sym (eqb-true (bucket_of p.call) b same) ∙ sym of_p in
          ap (slice_index firsts') at ∙ here ∙ sym (from b ∙ cond-true (bucket_of p.call == b) i (first_in_bucket_from b (i + 1) (drop (i + 1) pending)) same)
      first_at b lt false other =
          let differ = eqb-false (bucket_of p.call) b other in
          let apart : b ≢ k = omega (arith, differ, of_p) in
          others b apart ∙ are.first b lt
          ∙ sym (from b ∙ cond-false (bucket_of p.call == b) i (first_in_bucket_from b (i + 1) (drop (i + 1) pending)) other)

      next_here : (j : ℕ) (q : PendingTicket A) → j ≡ i → slice_get pending j ≡ Some q
          → slice_index nexts' j ≡ first_in_bucket_from (bucket_of q.call) (j + 1) (drop (j + 1) pending)
      next_here j q same e =
          let found : Some p ≡ Some q = sym (slice_get_read pending (length pending) i p refl within is) ∙ ap (slice_get pending) (sym same) ∙ e in
          let one : p ≡ q = cc found in
          ap (slice_index nexts') same ∙ next ∙ are.first k room
          ∙ ap (λ b. first_in_bucket_from b (i + 1) (drop (i + 1) pending)) (of_p ∙ ap (λ (x : PendingTicket A). bucket_of x.call) one)
          ∙ ap (λ m. first_in_bucket_from (bucket_of q.call) (m + 1) (drop (m + 1) pending)) (sym same)

-- ---- the positions of a call's bucket in order

-- This is the first position of the call's bucket from another on.
pub record IsFoundFrom {A : Type 0} (pending : List (PendingTicket A)) (c : Call A) (i k : ℕ) : Type 0 where
  pub least : i ≤ k
  pub most : k ≤ length pending
  pub none : HasNoTicketOf c i k pending
  pub bucket : IsInBucketOf c k pending

module _ {A : Type 0} (pending : List (PendingTicket A)) (firsts nexts : List ℕ) (chained : AreChained firsts nexts 0 pending) (c : Call A) where
  found : (i k : ℕ) → i ≤ length pending → k ≡ first_in_bucket_from (bucket_of c) i (drop i pending) → IsFoundFrom pending c i k
  found i k within is =
      let least = first_in_bucket_from-least (bucket_of c) i (drop i pending) in
      let most = first_in_bucket_from-most (bucket_of c) i (drop i pending) in
      record {
        least = omega (arith, is, least);
        most = omega (arith, is, most, length-drop i pending, within);
        none = none-before pending c i k is;
        bucket = at-bucket pending (bucket_of c) i k is;
      }

  pub found-first : (k : ℕ) → k ≡ slice_index firsts (bucket_of c) → IsFoundFrom pending c 0 k
  found-first k is = found 0 k (omega arith) (is ∙ chained.first (bucket_of c) (omega arith))

  pub found-next : (i k : ℕ) (p : PendingTicket A) → i < length pending → p ≡ get_or pending i p → IsInBucketOf c i pending → k ≡ slice_index nexts i
      → IsFoundFrom pending c (i + 1) k
  found-next i k p within here bucket is =
      let stands = slice_get_read pending (length pending) i p refl within here in
      found (i + 1) k (omega (arith, within))
      (is ∙ chained.next i p (omega arith) stands ∙ ap (λ b. first_in_bucket_from b (i + 1) (drop (i + 1) pending)) (bucket p stands))

module _ {A : Type 0} (pending : List (PendingTicket A)) (before : List (Call A)) (c : Call A) (a : Answer) where
  -- Nothing is given up to the first position of the bucket.
  pub answers-start : (k : ℕ) (items : List (TicketAnswer A)) → IsFoundFrom pending c 0 k
      → items ++ answers_to before c a pending ≡ items ++ answers_to before c a (drop k pending)
  answers-start k items is = ap (λ w. items ++ w) (answers-jump pending before c a k 0 k (omega arith) is.most is.none)

  -- One more position, and up to the next.
  pub answers-step : (gone : List Bool) (i k : ℕ) (p : PendingTicket A) (told same : Bool) (all items items' : List (TicketAnswer A)) → i < length pending
      → p ≡ get_or pending i p → same ≡ is_same p.call c → told ≡ (same && not (slice_index_or gone i false))
      → items' ≡ items ++ (if told then record { ticket = p.ticket; call = p.call; answer = a } ∷ [] else [])
      → IsFoundFrom pending c (i + 1) k → AreCommittedTo gone before c i pending
      → all ≡ items ++ answers_to before c a (drop i pending) → all ≡ items' ++ answers_to before c a (drop k pending)
  answers-step gone i k p told same all items items' within here of_p tells more next are so_far =
      let one : TicketAnswer A = record { ticket = p.ticket; call = p.call; answer = a } in
      let stands = slice_get_read pending (length pending) i p refl within here in
      let test : told ≡ (is_same p.call c && not (contains_call before p.call)) =
      tells ∙ ap (λ b. b && not (slice_index_or gone i false)) of_p ∙ ap (λ b. is_same p.call c && not b) (are.ahead i p stands (omega arith)) in
      let given : items' ≡ items ++ answer_for before c a p = more ∙ ap (λ b. items ++ (if b then one ∷ [] else [])) test in
      let jump = answers-jump pending before c a (k - (i + 1)) (i + 1) k (omega (arith, next.least)) next.most next.none in
      so_far ∙ ap (λ w. items ++ answers_to before c a w) (drop-next pending i p within here)
      ∙ sym (append_assoc items (answer_for before c a p) (answers_to before c a (drop (i + 1) pending)))
      ∙ ap (λ w. w ++ answers_to before c a (drop (i + 1) pending)) (sym given)
      ∙ ap (λ w. items' ++ w) jump

-- The answers of two concatenated lists of tickets.
pub answers_to-append : {A : Type 0} (before : List (Call A)) (c : Call A) (a : Answer) (ps qs : List (PendingTicket A))
    → answers_to before c a (ps ++ qs) ≡ answers_to before c a ps ++ answers_to before c a qs
answers_to-append before c a [] qs = refl
answers_to-append before c a (p ∷ ps) qs =
    ap (λ w. answer_for before c a p ++ w) (answers_to-append before c a ps qs)
    ∙ sym (append_assoc (answer_for before c a p) (answers_to before c a ps) (answers_to before c a qs))

-- The answers of all tickets, for a concatenation.
pub answers_to-split : {A : Type 0} (before : List (Call A)) (c : Call A) (a : Answer) (all ps qs : List (PendingTicket A)) (old mid new : List (TicketAnswer A))
    → all ≡ ps ++ qs → mid ≡ old ++ answers_to before c a ps → new ≡ mid ++ answers_to before c a qs → new ≡ old ++ answers_to before c a all
answers_to-split before c a all ps qs old mid new split first rest =
    rest ∙ ap (λ w. w ++ answers_to before c a qs) first ∙ append_assoc old (answers_to before c a ps) (answers_to before c a qs)
    ∙ ap (λ w. old ++ w) (sym (ap (answers_to before c a) split ∙ answers_to-append before c a ps qs))

-- Without pending tickets there are no answers.
answers_after_committed-none : {O A : Type 0} (object : Sequential O) (table : Table O) (before more : List (Call A)) → answers_after_committed object table [] before more ≡ []
answers_after_committed-none object table before [] = refl
answers_after_committed-none object table before (c ∷ more) = answers_after_committed-none object (table_next object table c) (before ++ c ∷ []) more

-- ---- the remaining tickets

module _ {A : Type 0} (gone : List Bool) (committed : List (Call A)) (xs ys : List (PendingTicket A)) (k i : ℕ) where
  -- The tickets at a position, before and now.
  at-place : drop i ys ≡ drop i xs → i < length ys
      → (p : PendingTicket A) × (slice_get xs i ≡ Some p) × (p ≡ get_or ys i p)
  at-place rest within =
      let here = drop-some i ys within in
      let same : i + 0 ≡ i = omega arith in
      let first : (l : List (PendingTicket A)) → slice_get (drop i l) 0 ≡ slice_get l i = λ l. get-drop i 0 l ∙ ap (slice_get l) same in
      (here.0, sym (first xs) ∙ ap (λ l. slice_get l 0) (sym rest) ∙ first ys ∙ here.1, sym (get_or_from_slice_get ys i here.0 here.0 here.1))

  -- One more ticket is removed.
  pub left-gone : AreCommitted gone committed xs → i < length ys → slice_index_or gone i false ≡ true
      → FiltersInPlace (λ (p : PendingTicket A). not (contains_call committed p.call)) xs ys k i
      → FiltersInPlace (λ (p : PendingTicket A). not (contains_call committed p.call)) xs ys k (i + 1)
  left-gone are within is so_far =
      let here = at-place so_far.rest within in
      FiltersInPlace-more_no {x = here.0} so_far within (ap not (sym (are i here.0 here.1) ∙ is)) here.2

  -- One more ticket is kept.
  pub left-kept : (zs : List (PendingTicket A)) → AreCommitted gone committed xs → i < length ys → slice_index_or gone i false ≡ false → SwappedAt ys zs k i
      → FiltersInPlace (λ (p : PendingTicket A). not (contains_call committed p.call)) xs ys k i
      → FiltersInPlace (λ (p : PendingTicket A). not (contains_call committed p.call)) xs zs (k + 1) (i + 1)
  left-kept zs are within is swapped so_far =
      let here = at-place so_far.rest within in
      FiltersInPlace-more_swap {x = here.0} {zs = zs} so_far within (ap not (sym (are i here.0 here.1) ∙ is)) here.2 swapped

-- If no call was committed each ticket is kept.
unanswered_by-none : {A : Type 0} (pending : List (PendingTicket A)) → unanswered_by [] pending ≡ pending
unanswered_by-none [] = refl
unanswered_by-none (p ∷ ps) = ap (λ w. p ∷ w) (unanswered_by-none ps)

-- The same by the length of the list.
pub unanswered_by-empty : {A : Type 0} (committed : List (Call A)) (pending : List (PendingTicket A)) → length committed ≡ 0 → pending ≡ unanswered_by committed pending
unanswered_by-empty [] pending none = sym (unanswered_by-none pending)
unanswered_by-empty (c ∷ committed) pending none = absurd (omega (arith, none))

-- Without pending tickets none is removed.
pub unanswered_by-nobody : {A : Type 0} (committed : List (Call A)) (pending : List (PendingTicket A)) → length pending ≡ 0 → pending ≡ unanswered_by committed pending
unanswered_by-nobody committed [] none = refl
unanswered_by-nobody committed (p ∷ pending) none = absurd (omega (arith, none))

-- Without pending tickets, by their number, there are no answers.
pub answers_after_committed-empty : {O A : Type 0} (object : Sequential O) (table : Table O) (pending : List (PendingTicket A)) (before more : List (Call A))
    → length pending ≡ 0 → answers_after_committed object table pending before more ≡ []
answers_after_committed-empty object table [] before more none = answers_after_committed-none object table before more
answers_after_committed-empty object table (p ∷ pending) before more none = absurd (omega (arith, none))
