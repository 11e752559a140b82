-- The test that one list of calls begins another, and prefixes.
use Rattle.std.proofs.Common.{◌≡◌, true, List, [], ◌∷◌, ◌++◌, length, take, drop, refl, ap, ◌∙◌, sym, subst, arith}
use Rattle.std.specs.Cmp.Derive.{both_true}
use Rattle.std.specs.Cmp.Lexicographic.{pointwise}
use Rattle.std.proofs.lemmas.List.{take_all, take-append-drop}
use Rattle.ring_base.specs.Prefixes.{IsListPrefix}
use Rattle.ring_base.proofs.ListFronts.{take-front}
use Rattle.ring_payload.specs.declared.call.Call.{Call as OneCall}
use Rattle.ring_payload.specs.SameCalls.{is_same, is_same-self}
use Rattle.ring_log.specs.Logs.{begins}
use Rattle.ring_log.proofs.Calls.{begins-Decides}

calls-self : {A : Type 0} (cs : List (OneCall A)) → pointwise (λ (c : OneCall A) (d : OneCall A). is_same d c) cs cs ≡ true
calls-self [] = refl
calls-self (c ∷ cs) = both_true (is_same-self c) (calls-self cs)

-- a prefix passes the test
pub front-begins : {A : Type 0} (xs ys : List (OneCall A)) → IsListPrefix xs ys → begins xs ys ≡ true
front-begins xs ys f =
    let whole : take (length xs) ys ≡ xs = take-front xs ys (length xs) f (omega arith) ∙ take_all (length xs) xs (omega arith) in
    subst (λ l. pointwise (λ (c : OneCall _) (d : OneCall _). is_same d c) xs l ≡ true) (sym whole) (calls-self xs)

-- what passes it is a prefix
pub front_begins : {A : Type 0} → (front calls : List (OneCall A)) → begins front calls ≡ true → IsListPrefix front calls
front_begins front calls h =
    let e : front ≡ take (length front) calls = (begins-Decides front calls).0 h in
    (drop (length front) calls, ap (λ xs. xs ++ drop (length front) calls) e ∙ take-append-drop (length front) calls)
