-- The number of calls that take effect, by the session table; it is at most the number of calls.
use Rattle.std.proofs.Common.{◌≡◌, ℕ, suc, ◌+◌, ◌≤◌, Bool, true, false, List, [], ◌∷◌, ◌++◌, length, drop, ap, sym, ◌∙◌}
use Rattle.std.proofs.Common.{arith, append_assoc, length-append, if◌then◌else◌}
use Rattle.std.proofs.lemmas.List.{append-nil}
use Rattle.std.proofs.lemmas.List.Sums.{fold-append}
use Rattle.ring_object.specs.Operations.{Sequential}
use Rattle.ring_payload.specs.declared.call.Call.{Call}
use Rattle.ring_session.specs.Deduplicated.{takes_effect, deduplicated_after, deduplicated}
use Rattle.ring_session.specs.DeduplicatedLaws.{deduplicated-push}
use Rattle.ring_session.specs.declared.answer.Answer.{Answer}
use Rattle.ring_session.specs.SessionAnswer.{is_done}
use Rattle.ring_session.specs.Table.{Table, opening, table_answer, table_next, table_after}
use Rattle.ring_session.proofs.TableLaws.{table_effect}
use Rattle.ring_session.specs.TicketEffects.{done_after}

-- A list with one more element, or the same list.
length-push_if : {X : Type 0} (xs : List X) (x : X) (b : Bool) → length (xs ++ (if b then x ∷ [] else [])) ≡ length xs + (if b then 1 else 0)
length-push_if xs x true = length-append xs (x ∷ [])
length-push_if xs x false = length-append xs []

-- The calls with the answer `Done` are those by which the order grows.
pub length-deduplicated : {O A : Type 0} (object : Sequential O) (before more : List (Call A))
    → length (deduplicated before) + done_after object (table_after object before) more ≡ length (deduplicated (before ++ more))
length-deduplicated object before [] = omega (arith, ap (λ w. length (deduplicated w)) (append-nil before))
length-deduplicated {O} {A} object before (c ∷ more) =
    let table : Table O = table_after object before in
    let after : table_next object table c ≡ table_after object (before ++ c ∷ []) =
    sym (fold-append (table_next object) (opening object.initial) before (c ∷ [])) in
    let one : length (deduplicated (before ++ c ∷ [])) ≡ length (deduplicated before) + (if is_done (table_answer object table c) then 1 else 0) =
    ap length (deduplicated-push before c) ∙ length-push_if (deduplicated before) c (takes_effect (deduplicated before) c)
    ∙ ap (λ b. length (deduplicated before) + (if b then 1 else 0)) (sym (table_effect object before c)) in
    let rest = length-deduplicated object (before ++ c ∷ []) more in
    let same = ap (λ (t : Table O). done_after object t more) after in
    let whole = ap (λ (w : List (Call A)). length (deduplicated w)) (append_assoc before (c ∷ []) more) in
    omega (arith, one, rest, same, whole)

few-step : {X : Type 0} (x : X) (xs ys : List X) (n : ℕ) (b : Bool) → length xs ≤ n → length ys ≤ n → length (if b then x ∷ xs else ys) ≤ suc n
few-step x xs ys n true h k = omega (arith, h)
few-step x xs ys n false h k = omega (arith, k)

-- At most all calls take effect.
pub deduplicated_after-few : {A : Type 0} (kept calls : List (Call A)) → length (deduplicated_after kept calls) ≤ length calls
deduplicated_after-few kept [] = omega arith
deduplicated_after-few kept (c ∷ calls) =
    few-step c (deduplicated_after (kept ++ c ∷ []) calls) (deduplicated_after kept calls) (length calls)
    (takes_effect kept c) (deduplicated_after-few (kept ++ c ∷ []) calls) (deduplicated_after-few kept calls)

-- One more committed call goes through the sessions.
pub done-next : {O A : Type 0} (object : Sequential O) (t t' : Table O) (more : List (Call A)) (i : ℕ) (c : Call A) (a : Answer) (all before after : ℕ)
    → drop i more ≡ c ∷ drop (i + 1) more → a ≡ table_answer object t c → t' ≡ table_next object t c → after ≡ before + (if is_done a then 1 else 0)
    → all ≡ before + done_after object t (drop i more) → all ≡ after + done_after object t' (drop (i + 1) more)
done-next {O} {A} object t t' more i c a all before after rest answer table counted e =
    let left : List (Call A) = drop (i + 1) more in
    let first = ap (λ (w : List (Call A)). done_after object t w) rest in
    let told = ap {B = ℕ} (λ b. if is_done b then 1 else 0) answer in
    let same = ap (λ (u : Table O). done_after object u left) table in
    omega (arith, e, first, told, same, counted)
