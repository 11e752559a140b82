-- The longest committed log, segment by segment, and its first calls.
use Rattle.std.proofs.Common.{◌≡◌, ℕ, zero, suc, ◌+◌, ◌-◌, List, [], ◌∷◌, ◌++◌, length, take, drop, Some, slice_get, refl, ap, ◌∙◌, sym, arith}
use Rattle.std.proofs.Common.{append_assoc, append-nil}
use Rattle.ring_base.proofs.Rows.{take-more}
use Rattle.ring_payload.specs.declared.call.Call.{Call}
use Rattle.ring_node_spec.specs.Worlds.{calls_past}
use Rattle.ring_world.specs.LongestCommitted.{calls_of}

-- one more segment
pub calls_of-push : {A : Type 0} (ss : List (List (Call A))) (s : List (Call A)) → calls_of (ss ++ s ∷ []) ≡ calls_of ss ++ s
calls_of-push [] s = append-nil s
calls_of-push (t ∷ ss) s = ap (λ l. t ++ l) (calls_of-push ss s) ∙ sym (append_assoc t (calls_of ss) s)

pub calls_of-more : {A : Type 0} (ss : List (List (Call A))) (k : ℕ) (s : List (Call A)) → slice_get ss k ≡ Some s
    → calls_of (take (k + 1) ss) ≡ calls_of (take k ss) ++ s
calls_of-more ss k s at = ap calls_of (take-more ss k s at) ∙ calls_of-push (take k ss) s

-- the new calls
pub new-calls : {A : Type 0} (longest calls : List (Call A)) (committed len many from : ℕ) → len ≡ length longest → many ≡ length calls
    → from ≡ many - (committed - len) → longest ++ drop from calls ≡ longest ++ calls_past (length longest) committed calls
new-calls longest calls committed len many from len_is many_is from_is =
    let same : from ≡ length calls - (committed - length longest) = omega (arith, len_is, many_is, from_is) in
    ap (λ n. longest ++ drop n calls) same

-- the first n of two lists
pub take-both : {X : Type 0} (n : ℕ) (xs ys : List X) → take n (xs ++ ys) ≡ take n xs ++ take (n - length (take n xs)) ys
take-both zero [] ys = refl
take-both zero (x ∷ xs) ys = refl
take-both (suc n) [] ys = (let e : suc n ≡ suc n - 0 = omega arith in ap (λ m. take m ys) e)
take-both (suc n) (x ∷ xs) ys =
    let e : n - length (take n xs) ≡ suc n - suc (length (take n xs)) = omega arith in
    ap (λ l. x ∷ l) (take-both n xs ys) ∙ ap (λ m. (x ∷ take n xs) ++ take m ys) e
