-- The longer of two lists is one of them, and as long as the longest.
use Rattle.std.proofs.Common.{◌≡◌, ◌≤◌, max, List, length, arith}
use Rattle.std.specs.Prelude.{nat_lt}
use Rattle.std.proofs.lemmas.Bool.{cond_both, ltb-true, ltb-false}
use Rattle.ring_log.specs.EpochHistories.{longer_list}

pub longer_list-either : {X : Type 0} (P : List X → Type 0) (xs ys : List X) → P xs → P ys → P (longer_list xs ys)
longer_list-either P xs ys first second = cond_both (nat_lt (length xs) (length ys)) ys xs P (λ t. second) (λ f. first)

pub length-longer_list : {X : Type 0} (xs ys : List X) → length (longer_list xs ys) ≡ max (length xs) (length ys)
length-longer_list {X} xs ys =
    cond_both (nat_lt (length xs) (length ys)) ys xs (λ (zs : List X). length zs ≡ max (length xs) (length ys))
    (λ t. let lt = ltb-true (length xs) (length ys) t in omega (arith, lt))
    (λ f. let le = ltb-false (length xs) (length ys) f in omega (arith, le))

pub longer_list-most : {X : Type 0} (xs ys : List X) → (length xs ≤ length (longer_list xs ys)) × (length ys ≤ length (longer_list xs ys))
longer_list-most xs ys = let size = length-longer_list xs ys in (omega (arith, size), omega (arith, size))
