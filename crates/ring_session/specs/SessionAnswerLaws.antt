-- A reply of the session table is the sequential object's reply at the one place where its call takes effect, and no
-- later call changes it.
-- Rules: Sessions 3, 7 and 8
use Rattle.std.proofs.Common.{◌≡◌, ℕ, suc, ◌+◌, ◌<◌, ◌≤◌, ◌==◌, ◌&&◌, nat_lt, Bool, true, false, List, [], ◌∷◌}
use Rattle.std.proofs.Common.{◌++◌, length, take, drop, Option, Some, None, position, slice_get, get_or, refl, ap, sym}
use Rattle.std.proofs.Common.{◌∙◌, arith, ◌⊎◌, inl, inr, if◌then◌else◌}
use Rattle.std.specs.Prelude.{slice_index_or}
use Rattle.std.specs.Option.{option_map}
use Rattle.std.proofs.lemmas.Bool.{cond-true}
use Rattle.std.proofs.lemmas.List.{append-nil, map-append, length-map, length-append, take-append-le, take-append-drop, take-take, take_all, get_or_append_left}
use Rattle.std.proofs.lemmas.List.Quantifiers.{position-Some}
use Rattle.std.proofs.lemmas.Option.{slice_get_within, slice_get-get_or}
use Rattle.ring_base.proofs.Rows.{take-found}
use Rattle.ring_base.proofs.ListFronts.{taken-front, take-front}
use Rattle.ring_base.proofs.ListPlaces.{get-last}
use Rattle.ring_base.specs.Prefixes.{IsListPrefix, prefix_trans, prefix_length, prefix_get}
use Rattle.ring_base.specs.declared.fault.Fault.TheVariants.{Stale, NumberGap, SessionsFull}
use Rattle.ring_object.specs.Operations.{Sequential, content_after}
use Rattle.ring_payload.specs.declared.call.Call.{Call}
pub use Rattle.ring_payload.specs.SameCalls.{is_same-true}
use Rattle.ring_session.specs.declared.answer.Answer.{Answer}
use Rattle.ring_session.specs.declared.answer.Answer.TheVariants.{Done, Kept}
use Rattle.ring_session.specs.Deduplicated.{count_of, may_call, takes_effect, deduplicated, IsCallAt, IsNumbered, operations}
use Rattle.ring_session.specs.DeduplicatedLaws.{count_of-take, deduplicated-push}
use Rattle.ring_session.specs.DeduplicatedLaws.{deduplicated-front, deduplicated-numbered, takes_effect-number}
use Rattle.ring_session.specs.DeduplicatedLaws.{numbered_once}
use Rattle.ring_session.specs.SessionAnswer.{refusal, is_same, repeated_call_answer, answer_after, reply_of_answer, call_reply, session_answer, IsReplyIn}

-- ---- the sequential object's replies

-- A reply stays the same if the list grows.
pub call_reply-front : {O A : Type 0} (object : Sequential O) (xs ys : List (Call A)) (q : ℕ) → IsListPrefix xs ys → q < length xs
    → call_reply object ys q ≡ call_reply object xs q
call_reply-front {O} {A} object xs ys q front within =
    let split : operations ys ≡ operations xs ++ operations front.0 = ap operations (sym front.1) ∙ map-append (λ (c : Call A). c.op) xs front.0 in
    let many : length (operations xs) ≡ length xs = length-map xs (λ (c : Call A). c.op) in
    let before : take q (operations ys) ≡ take q (operations xs) = ap (take q) split
    ∙ take-append-le q (operations xs) (operations front.0) (omega (arith, within, many)) in
    let here : slice_index_or (operations ys) q [] ≡ slice_index_or (operations xs) q [] =
    ap (λ (w : List (List ℕ)). slice_index_or w q []) split ∙ get_or_append_left (operations xs)
    (operations front.0) [] q (omega (arith, within, many)) in
    ap (λ w. object.reply (content_after object object.initial w) (slice_index_or (operations ys) q [])) before
    ∙ ap (λ op. object.reply (content_after object object.initial (take q (operations xs))) op) here

-- A reply of a call in an order is its reply in every longer order.
pub replied_front : {O A : Type 0} (object : Sequential O) (xs ys : List (Call A)) (c : Call A) (r : List ℕ) → IsListPrefix xs ys
    → IsReplyIn object xs c r → IsReplyIn object ys c r
replied_front object xs ys c r front replied = (
  replied.0,
  prefix_get xs ys replied.0 c front replied.1,
  call_reply-front object xs ys replied.0 front
      (slice_get_within xs replied.0 c replied.1) ∙ replied.2,
)

-- In an order in which each client's calls are numbered, a client's number names one call with one reply.
pub one_reply : {O A : Type 0} (object : Sequential O) (order : List (Call A)) → IsNumbered order → (c d : Call A) (r s : List ℕ)
    → IsReplyIn object order c r → IsReplyIn object order d s → c.client ≡ d.client → c.number ≡ d.number → (c ≡ d) × (r ≡ s)
one_reply {O} {A} object order numbered c d r s x y client number =
    let place : x.0 ≡ y.0 = numbered_once order numbered x.0 y.0 c d x.1 y.1 client number in
    let same : Some c ≡ Some d = sym x.1 ∙ ap (λ q. slice_get order q) place ∙ y.1 in
    (cc same, sym x.2 ∙ ap (call_reply object order) place ∙ y.2)

-- ---- places

-- The calls that took effect before a place are a prefix.
before_front : {A : Type 0} (calls : List (Call A)) (p : ℕ) → IsListPrefix (deduplicated (take p calls)) (deduplicated calls)
before_front calls p = deduplicated-front (take p calls) calls (taken-front p calls)

-- A call that takes effect at its place comes directly after the calls that took effect before.
pub takes_effect-front : {A : Type 0} (calls : List (Call A)) (p : ℕ) (c : Call A) → IsCallAt calls p c
    → takes_effect (deduplicated (take p calls)) c ≡ true → IsListPrefix (deduplicated (take p calls) ++ c ∷ [])
    (deduplicated (take (suc p) calls))
takes_effect-front {A} calls p c at taken =
    let kept = deduplicated (take p calls) in
    let grown : deduplicated (take (suc p) calls) ≡ kept ++ c ∷ [] =
    ap deduplicated (take-found calls p c at) ∙ deduplicated-push (take p calls) c ∙ ap (λ w. kept ++ w) (cond-true (takes_effect kept c) (c ∷ []) [] taken) in
    ([], append-nil (kept ++ c ∷ []) ∙ sym grown)

effect_front : {A : Type 0} (calls : List (Call A)) (p : ℕ) (c : Call A) → IsCallAt calls p c
    → takes_effect (deduplicated (take p calls)) c ≡ true → IsListPrefix (deduplicated (take p calls) ++ c ∷ [])
    (deduplicated calls)
effect_front calls p c at taken = prefix_trans (deduplicated (take p calls) ++ c ∷ [])
    (deduplicated (take (suc p) calls)) (deduplicated calls) (takes_effect-front calls p c at taken)
    (before_front calls (suc p))

-- ---- one call

-- The place of one call.
pub position-is_same : {A : Type 0} (kept : List (Call A)) (c : Call A) (q : ℕ) → position (is_same c) kept ≡ Some q → IsCallAt kept q c
position-is_same kept c q found =
    let there = position-Some (is_same c) kept q c found in
    slice_get-get_or kept q c there.0 ∙ ap Some (is_same-true c (get_or kept q c) there.1)

-- ---- answers

-- The answer at a place with a call.
pub session_answer-at : {O A : Type 0} (object : Sequential O) (calls : List (Call A)) (p : ℕ) (c : Call A) → IsCallAt calls p c
    → session_answer object calls p ≡ Some (answer_after (call_reply object (deduplicated calls)) (deduplicated (take p calls)) c)
session_answer-at object calls p c at = ap (option_map (answer_after (call_reply object (deduplicated calls)) (deduplicated (take p calls)))) at

same_place : (f g : ℕ → List ℕ) (o : Option ℕ) → ((q : ℕ) → o ≡ Some q → f q ≡ g q) → repeated_call_answer f o ≡ repeated_call_answer g o
same_place f g None same = refl
same_place f g (Some q) same = ap Kept (same q refl)

-- Two answers by the same tests are equal if the replies and the kept answers to which they lead are equal.
pub same_cases : (next room last old : Bool) (x y : List ℕ) (k l : Answer) → (next && room ≡ true → x ≡ y) → (last ≡ true → k ≡ l)
    → (if next then (if room then Done x else refusal SessionsFull) else if last then k else if old then refusal Stale else refusal NumberGap)
    ≡ (if next then (if room then Done y else refusal SessionsFull) else if last then l else if old then refusal Stale else refusal NumberGap)
same_cases true true last old x y k l done kept = ap Done (done refl)
same_cases true false last old x y k l done kept = refl
same_cases false room true old x y k l done kept = kept refl
same_cases false room false old x y k l done kept = refl

-- The answer depends only on the replies at the kept places, and on its own if the call takes effect.
pub answer_after-same : {A : Type 0} (f g : ℕ → List ℕ) (kept : List (Call A)) (c : Call A)
    → (takes_effect kept c ≡ true → f (length kept) ≡ g (length kept)) → ((q : ℕ) → q < length kept → f q ≡ g q)
    → answer_after f kept c ≡ answer_after g kept c
answer_after-same f g kept c own before =
    same_cases (c.number == count_of c.client kept + 1) (may_call kept c.client) (c.number == count_of c.client kept) (nat_lt c.number (count_of c.client kept))
    (f (length kept)) (g (length kept)) (repeated_call_answer f (position (is_same c) kept)) (repeated_call_answer g (position (is_same c) kept)) own
    (λ last. same_place f g (position (is_same c) kept) (λ q found. before q (position-Some (is_same c) kept q c found).0))

-- An answer stays the same if the list grows.
pub session_answer-front : {O A : Type 0} (object : Sequential O) (xs ys : List (Call A)) (p : ℕ) (c : Call A) → IsCallAt xs p c → IsListPrefix xs ys
    → session_answer object ys p ≡ session_answer object xs p
session_answer-front {O} {A} object xs ys p c at front =
    let kept = deduplicated (take p xs) in
    let grows = deduplicated-front xs ys front in
    let all : ℕ → List ℕ = call_reply object (deduplicated xs) in
    let more : ℕ → List ℕ = call_reply object (deduplicated ys) in
    let before : take p ys ≡ take p xs = take-front xs ys p front (omega (arith, slice_get_within xs p c at)) in
    let same : (q : ℕ) → q < length (deduplicated xs) → more q ≡ all q = λ q within. call_reply-front object
    (deduplicated xs) (deduplicated ys) q grows within in
    session_answer-at object ys p c (prefix_get xs ys p c front at)
    ∙ ap (λ w. Some (answer_after more (deduplicated w) c)) before
    ∙ ap Some (answer_after-same more all kept c
    (λ taken. same (length kept) (omega (arith, prefix_length (kept ++ c ∷ []) (deduplicated xs) (effect_front xs p c at taken), length-append kept (c ∷ []))))
    (λ q within. same q (omega (arith, within, prefix_length kept (deduplicated xs) (before_front xs p)))))
    ∙ sym (session_answer-at object xs p c at)

replied_cases : (next room last old : Bool) (f : ℕ → List ℕ) (n : ℕ) (o : Option ℕ) (r : List ℕ)
    → reply_of_answer (if next then (if room then Done (f n) else refusal SessionsFull) else if last then repeated_call_answer f
    o else if old then refusal Stale else refusal NumberGap) ≡ Some r
    → ((next && room ≡ true) × (f n ≡ r)) ⊎ ((q : ℕ) × (o ≡ Some q) × (f q ≡ r))
replied_cases true true last old f n o r e = inl (refl, cc e)
replied_cases true false last old f n o r e = absurd (cc e)
replied_cases false room true old f n None r e = absurd (cc e)
replied_cases false room true old f n (Some q) r e = inr (q, refl, cc e)
replied_cases false room false true f n o r e = absurd (cc e)
replied_cases false room false false f n o r e = absurd (cc e)

-- A reply is the sequential object's reply at a place where the call takes effect.
pub answered : {O A : Type 0} (object : Sequential O) (calls : List (Call A)) (p : ℕ) (c : Call A) (a : Answer) (r : List ℕ) → IsCallAt calls p c
    → session_answer object calls p ≡ Some a → reply_of_answer a ≡ Some r → IsReplyIn object (deduplicated calls) c r
answered {O} {A} object calls p c a r at answer is =
    let kept = deduplicated (take p calls) in
    let replies : ℕ → List ℕ = call_reply object (deduplicated calls) in
    let told : Some (answer_after replies kept c) ≡ Some a = sym (session_answer-at object calls p c at) ∙ answer in
    let same : answer_after replies kept c ≡ a = cc told in
    let brings : reply_of_answer (answer_after replies kept c) ≡ Some r = ap reply_of_answer same ∙ is in
    elim (replied_cases (c.number == count_of c.client kept + 1) (may_call kept c.client)
    (c.number == count_of c.client kept) (nat_lt c.number (count_of c.client kept)) replies (length kept)
    (position (is_same c) kept) r brings) [
      | inl now ↦ (length kept, prefix_get (kept ++ c ∷ []) (deduplicated calls) (length kept) c (effect_front calls p c at now.0) (get-last kept c), now.1)
      | inr before ↦ (before.0, prefix_get kept (deduplicated calls) before.0 c (before_front calls p) (position-is_same kept c before.0 before.1), before.2)
    ]

-- A call with a reply has a number of at least 1.
pub answered-number : {O A : Type 0} (object : Sequential O) (calls : List (Call A)) (p : ℕ) (c : Call A) (a : Answer) (r : List ℕ) → IsCallAt calls p c
    → session_answer object calls p ≡ Some a → reply_of_answer a ≡ Some r → 1 ≤ c.number
answered-number object calls p c a r at answer is =
    let there = answered object calls p c a r at answer is in
    omega (arith, deduplicated-numbered calls there.0 c there.1)

-- ---- one effect

done_cases : (next room last old : Bool) (f : ℕ → List ℕ) (n : ℕ) (o : Option ℕ) (r : List ℕ)
    → (if next then (if room then Done (f n) else refusal SessionsFull) else if last then repeated_call_answer f
    o else if old then refusal Stale else refusal NumberGap) ≡ Done r → next && room ≡ true
done_cases true true last old f n o r e = refl
done_cases true false last old f n o r e = absurd (cc e)
done_cases false room true old f n None r e = absurd (cc e)
done_cases false room true old f n (Some q) r e = absurd (cc e)
done_cases false room false true f n o r e = absurd (cc e)
done_cases false room false false f n o r e = absurd (cc e)

-- A call with the answer `Done` takes effect at its place.
pub done_takes_effect : {O A : Type 0} (object : Sequential O) (calls : List (Call A)) (p : ℕ) (c : Call A) (r : List ℕ) → IsCallAt calls p c
    → session_answer object calls p ≡ Some (Done r) → takes_effect (deduplicated (take p calls)) c ≡ true
done_takes_effect {O} {A} object calls p c r at answer =
    let kept = deduplicated (take p calls) in
    let replies : ℕ → List ℕ = call_reply object (deduplicated calls) in
    let told : Some (answer_after replies kept c) ≡ Some (Done r) = sym (session_answer-at object calls p c at) ∙ answer in
    done_cases (c.number == count_of c.client kept + 1) (may_call kept c.client) (c.number == count_of c.client kept)
    (nat_lt c.number (count_of c.client kept)) replies (length kept) (position (is_same c) kept) r (cc told)

-- A client's number takes effect at no later place.
no_later_effect : {A : Type 0} (calls : List (Call A)) (p q : ℕ) (c d : Call A) → IsCallAt calls p c
    → IsCallAt calls q d → takes_effect (deduplicated (take p calls)) c ≡ true
    → takes_effect (deduplicated (take q calls)) d ≡ true
    → c.client ≡ d.client → c.number ≡ d.number → p < q → ⊥
no_later_effect {A} calls p q c d at at' taken taken' client number lt =
    let before = deduplicated (take p calls) in
    let kept = deduplicated (take q calls) in
    let shorter : take (suc p) (take q calls) ≡ take (suc p) calls = take-take (suc p) q calls (omega (arith, lt)) in
    let part : IsListPrefix (take (suc p) calls) (take q calls) = (
      drop (suc p) (take q calls),
      ap (λ w. w ++ drop (suc p) (take q calls)) (sym shorter) ∙ take-append-drop (suc p) (take q calls),
    ) in
    let stands : IsCallAt kept (length before) c =
    prefix_get (before ++ c ∷ []) kept (length before) c
    (prefix_trans (before ++ c ∷ []) (deduplicated (take (suc p) calls)) kept (takes_effect-front calls p c at taken)
    (deduplicated-front (take (suc p) calls) (take q calls) part))
    (get-last before c) in
    let first = deduplicated-numbered (take q calls) (length before) c stands in
    let second = takes_effect-number kept d taken' in
    let more = count_of-take kept (length before) (length kept) c stands (slice_get_within kept (length before) c stands) in
    let all : count_of c.client (take (length kept) kept) ≡ count_of c.client kept = ap (count_of c.client) (take_all (length kept) kept (omega arith)) in
    let same : count_of c.client kept ≡ count_of d.client kept = ap (λ k. count_of k kept) client in
    omega (arith, first, second, more, all, same, number)

-- A client's number has the answer `Done` at only one place.
pub done_once : {O A : Type 0} (object : Sequential O) (calls : List (Call A)) (p q : ℕ) (c d : Call A) (r s : List ℕ) → IsCallAt calls p c → IsCallAt calls q d
    → session_answer object calls p ≡ Some (Done r) → session_answer object calls q ≡ Some (Done s) → c.client ≡ d.client → c.number ≡ d.number → p ≡ q
done_once object calls p q c d r s at at' done done' client number =
    let taken = done_takes_effect object calls p c r at done in
    let taken' = done_takes_effect object calls q d s at' done' in
    let le : p ≤ q = omega (arith, no_later_effect calls q p d c at' at taken' taken (sym client) (sym number)) in
    let ge : q ≤ p = omega (arith, no_later_effect calls p q c d at at' taken taken' client number) in
    omega (arith, le, ge)
