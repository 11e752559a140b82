-- The calls that take effect are calls of the list, each once, and each client's are numbered 1, 2, ..; appended calls
-- only append to them.
-- Rules: Sessions 6
use Rattle.std.proofs.Common.{◌≡◌, ℕ, zero, suc, ◌+◌, ◌<◌, ◌≤◌, ◌==◌, Bool, true, false, List, [], ◌∷◌, ◌++◌}
use Rattle.std.proofs.Common.{take, get_or, refl, ap, sym, subst, ◌∙◌, arith, append_assoc, inl}
use Rattle.std.proofs.Common.{inr, if◌then◌else◌}
use Rattle.std.proofs.lemmas.Bool.{cond-true, cond-false, eq-eqb, ne_eqb, eqb-true, and_parts}
use Rattle.std.proofs.lemmas.List.{append-nil, take_at, take-take}
use Rattle.std.proofs.lemmas.List.Sums.{sum_by_push, sum_by_more, sum_by-take-le}
use Rattle.std.proofs.lemmas.Option.{slice_get_within, get_or_from_slice_get}
use Rattle.ring_base.specs.Prefixes.{IsListPrefix}
use Rattle.ring_base.proofs.ListFronts.{take-front}
use Rattle.ring_base.proofs.ListPlaces.{get-push}
use Rattle.ring_payload.specs.declared.call.Call.{Call}
use Rattle.ring_session.specs.Deduplicated.{is_of_client, count_of, may_call, takes_effect, deduplicated_after, deduplicated, IsCallAt, IsNumbered}

-- ---- places of a list

-- ---- counts

-- The count with one more call.
pub count_of-push : {A : Type 0} (client : ℕ) (calls : List (Call A)) (c : Call A) → count_of client (calls ++ c ∷ [])
    ≡ count_of client calls + (if is_of_client client c then 1 else 0)
count_of-push client calls c = sum_by_push (λ x. if is_of_client client x then 1 else 0) calls c

-- A call of the client adds one to its count.
pub count_of-push_own : {A : Type 0} (calls : List (Call A)) (c : Call A) → count_of c.client (calls ++ c ∷ []) ≡ count_of c.client calls + 1
count_of-push_own calls c = count_of-push c.client calls c ∙ ap (λ n. count_of c.client calls + n)
    (cond-true (c.client == c.client) 1 0 (eq-eqb c.client c.client refl))

-- A call of another client leaves the count unchanged.
pub count_of-push_other : {A : Type 0} (client : ℕ) (calls : List (Call A)) (c : Call A) → (c.client ≡ client → ⊥)
    → count_of client (calls ++ c ∷ []) ≡ count_of client calls
count_of-push_other client calls c ne =
    let none : count_of client (calls ++ c ∷ []) ≡ count_of client calls + 0 = count_of-push client calls c
    ∙ ap (λ n. count_of client calls + n) (cond-false (c.client == client) 1 0 (ne_eqb c.client client ne)) in
    omega (arith, none)

-- A client's count is greater after each call of the client.
pub count_of-take : {A : Type 0} (calls : List (Call A)) (p q : ℕ) (c : Call A) → IsCallAt calls p c → p < q
    → count_of c.client (take p calls) + 1 ≤ count_of c.client (take q calls)
count_of-take {A} calls p q c at lt =
    let f : Call A → ℕ = λ x. if is_of_client c.client x then 1 else 0 in
    let more = sum_by_more f calls p c (slice_get_within calls p c at) in
    let here : get_or calls p c ≡ c = get_or_from_slice_get calls p c c at in
    let one : f c ≡ 1 = cond-true (c.client == c.client) 1 0 (eq-eqb c.client c.client refl) in
    let part = sum_by-take-le f (take q calls) (p + 1) in
    let shorter : take (p + 1) (take q calls) ≡ take (p + 1) calls = take-take (p + 1) q calls (omega (arith, lt)) in
    omega (arith, more, ap f here, one, rw shorter at part)

-- ---- the calls that take effect

append_step : {A : Type 0} (kept xs ys : List (Call A)) (x : Call A) (b : Bool)
    → deduplicated_after (kept ++ x ∷ []) (xs ++ ys) ≡ deduplicated_after (kept ++ x ∷ []) xs ++ deduplicated_after
    ((kept ++ x ∷ []) ++ deduplicated_after (kept ++ x ∷ []) xs) ys
    → deduplicated_after kept (xs ++ ys) ≡ deduplicated_after kept xs ++ deduplicated_after (kept ++ deduplicated_after kept xs) ys
    → (if b then x ∷ deduplicated_after (kept ++ x ∷ []) (xs ++ ys) else deduplicated_after kept (xs ++ ys))
    ≡ (if b then x ∷ deduplicated_after (kept ++ x ∷ []) xs else deduplicated_after kept xs) ++ deduplicated_after
    (kept ++ (if b then x ∷ deduplicated_after (kept ++ x ∷ []) xs else deduplicated_after kept xs)) ys
append_step kept xs ys x true taken left =
    ap (λ w. x ∷ w) taken ∙ ap (λ w. x ∷ deduplicated_after (kept ++ x ∷ []) xs ++ deduplicated_after w ys)
    (append_assoc kept (x ∷ []) (deduplicated_after (kept ++ x ∷ []) xs))
append_step kept xs ys x false taken left = left

-- More calls only append to the calls that take effect.
pub deduplicated_after-append : {A : Type 0} (kept xs ys : List (Call A)) → deduplicated_after kept (xs ++ ys)
    ≡ deduplicated_after kept xs ++ deduplicated_after (kept ++ deduplicated_after kept xs) ys
deduplicated_after-append kept [] ys = ap (λ w. deduplicated_after w ys) (sym (append-nil kept))
deduplicated_after-append kept (x ∷ xs) ys = append_step kept xs ys x (takes_effect kept x)
    (deduplicated_after-append (kept ++ x ∷ []) xs ys) (deduplicated_after-append kept xs ys)

-- One more call is appended if it takes effect.
pub deduplicated-push : {A : Type 0} (calls : List (Call A)) (c : Call A) → deduplicated (calls ++ c ∷ [])
    ≡ deduplicated calls ++ (if takes_effect (deduplicated calls) c then c ∷ [] else [])
deduplicated-push calls c = deduplicated_after-append [] calls (c ∷ [])

-- The calls that take effect in a prefix are a prefix of those that take effect in the whole list.
pub deduplicated-front : {A : Type 0} (xs ys : List (Call A)) → IsListPrefix xs ys → IsListPrefix (deduplicated xs) (deduplicated ys)
deduplicated-front xs ys front = (deduplicated_after (deduplicated xs) front.0, sym (deduplicated_after-append [] xs front.0) ∙ ap deduplicated front.1)

-- A call that takes effect has its client's next number.
pub takes_effect-number : {A : Type 0} (kept : List (Call A)) (c : Call A) → takes_effect kept c ≡ true → c.number ≡ count_of c.client kept + 1
takes_effect-number kept c taken = eqb-true c.number (count_of c.client kept + 1)
    (and_parts (c.number == count_of c.client kept + 1) (may_call kept c.client) taken).0

numbered_push : {A : Type 0} (kept : List (Call A)) (c : Call A) → IsNumbered kept → takes_effect kept c ≡ true → IsNumbered (kept ++ c ∷ [])
numbered_push {A} kept c numbered taken p d at =
    elim (get-push kept c p d at) as (λ _. d.number ≡ count_of d.client (take p (kept ++ c ∷ [])) + 1) [
      | inl before ↦
          let same : take p (kept ++ c ∷ []) ≡ take p kept = take-front kept (kept ++ c ∷ []) p (c ∷ [], refl)
          (omega (arith, slice_get_within kept p d before)) in
          numbered p d before ∙ ap (λ w. count_of d.client w + 1) (sym same)
      | inr last ↦
          let all : take p (kept ++ c ∷ []) ≡ kept = take_at kept (c ∷ []) p (sym last.0) in
          let P : Call A → Type 0 = λ w. w.number ≡ count_of w.client (take p (kept ++ c ∷ [])) + 1 in
          subst P last.1 (takes_effect-number kept c taken ∙ ap (λ w. count_of c.client w + 1) (sym all))
    ]

numbered_step : {A : Type 0} (kept cs : List (Call A)) (c : Call A) (b : Bool) → takes_effect kept c ≡ b → IsNumbered kept
    → (IsNumbered (kept ++ c ∷ []) → IsNumbered ((kept ++ c ∷ []) ++ deduplicated_after (kept ++ c ∷ []) cs))
    → (IsNumbered kept → IsNumbered (kept ++ deduplicated_after kept cs))
    → IsNumbered (kept ++ (if b then c ∷ deduplicated_after (kept ++ c ∷ []) cs else deduplicated_after kept cs))
numbered_step kept cs c true is numbered taken left = subst IsNumbered
    (append_assoc kept (c ∷ []) (deduplicated_after (kept ++ c ∷ []) cs)) (taken (numbered_push kept c numbered is))
numbered_step kept cs c false is numbered taken left = left numbered

numbered_after : {A : Type 0} (kept cs : List (Call A)) → IsNumbered kept → IsNumbered (kept ++ deduplicated_after kept cs)
numbered_after kept [] numbered = subst IsNumbered (sym (append-nil kept)) numbered
numbered_after kept (c ∷ cs) numbered = numbered_step kept cs c (takes_effect kept c) refl numbered
    (numbered_after (kept ++ c ∷ []) cs) (numbered_after kept cs)

-- Each client's calls that take effect are numbered 1, 2, ..
pub deduplicated-numbered : {A : Type 0} (calls : List (Call A)) → IsNumbered (deduplicated calls)
deduplicated-numbered calls = numbered_after [] calls (λ p c at. absurd (cc at))

stands_step : {A : Type 0} (kept cs : List (Call A)) (d : Call A) (b : Bool) (p : ℕ) (c : Call A)
    → ((k : ℕ) → IsCallAt (deduplicated_after (kept ++ d ∷ []) cs) k c → (q : ℕ) × IsCallAt cs q c)
    → ((k : ℕ) → IsCallAt (deduplicated_after kept cs) k c → (q : ℕ) × IsCallAt cs q c)
    → IsCallAt (if b then d ∷ deduplicated_after (kept ++ d ∷ []) cs else deduplicated_after kept cs) p c → (q : ℕ) × IsCallAt (d ∷ cs) q c
stands_step kept cs d true zero c taken left at = (zero, at)
stands_step kept cs d true (suc p) c taken left at = let r = taken p at in (suc r.0, r.1)
stands_step kept cs d false p c taken left at = let r = left p at in (suc r.0, r.1)

-- A call that takes effect after the kept ones is in the list.
pub deduplicated_after-stands : {A : Type 0} (kept calls : List (Call A)) (p : ℕ) (c : Call A)
    → IsCallAt (deduplicated_after kept calls) p c → (q : ℕ) × IsCallAt calls q c
deduplicated_after-stands kept [] p c at = absurd (cc at)
deduplicated_after-stands kept (d ∷ cs) p c at = stands_step kept cs d (takes_effect kept d) p c
    (λ k. deduplicated_after-stands (kept ++ d ∷ []) cs k c) (λ k. deduplicated_after-stands kept cs k c) at

-- A call that takes effect is in the list.
pub deduplicated-stands : {A : Type 0} (calls : List (Call A)) (p : ℕ) (c : Call A) → IsCallAt (deduplicated calls) p c → (q : ℕ) × IsCallAt calls q c
deduplicated-stands calls p c at = deduplicated_after-stands [] calls p c at

-- ---- each number once

-- If each client's calls are numbered, no call precedes another one of the same client and number.
not_before : {A : Type 0} (calls : List (Call A)) → IsNumbered calls → (p q : ℕ) (c d : Call A) → IsCallAt calls p c
    → IsCallAt calls q d → c.client ≡ d.client → c.number ≡ d.number → p < q → ⊥
not_before calls numbered p q c d at at' client number lt =
    let more = count_of-take calls p q c at lt in
    let first = numbered p c at in
    let second = numbered q d at' in
    let same : count_of c.client (take q calls) ≡ count_of d.client (take q calls) = ap (λ k. count_of k (take q calls)) client in
    omega (arith, more, first, second, number, same)

-- If each client's calls are numbered, a client's number occurs only once.
pub numbered_once : {A : Type 0} (calls : List (Call A)) → IsNumbered calls → (p q : ℕ) (c d : Call A)
    → IsCallAt calls p c → IsCallAt calls q d → c.client ≡ d.client → c.number ≡ d.number → p ≡ q
numbered_once calls numbered p q c d at at' client number =
    let le : p ≤ q = omega (arith, not_before calls numbered q p d c at' at (sym client) (sym number)) in
    let ge : q ≤ p = omega (arith, not_before calls numbered p q c d at at' client number) in
    omega (arith, le, ge)
