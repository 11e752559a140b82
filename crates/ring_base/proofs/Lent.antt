-- The lifetimes of the borrowed values end no sooner than the borrow.
use Rattle.std.proofs.Common.{ℕ, List, [], ◌++◌}
use contract.BorrowLft.{◌⊑◌, ⊑_meet, ⊑_static}

pub lent : (κ p q t f : List ℕ) → κ ⊑ p → κ ⊑ q → κ ⊑ t → κ ⊑ f
    → κ ⊑ (p ++ (t ++ [] ++ (t ++ [] ++ [] ++ [])) ++ (q ++ f ++ []) ++ (p ++ (t ++ [] ++ (t ++ [] ++ [] ++ [])) ++ (q ++ f ++ [])))
lent κ p q t f ghost_value from told made =
    let n = ⊑_static κ in
    let one = ⊑_meet κ t [] told n in
    let three = ⊑_meet κ (t ++ [] ++ []) [] (⊑_meet κ (t ++ []) [] one n) n in
    let all = ⊑_meet κ (t ++ []) (t ++ [] ++ [] ++ []) one three in
    let first = ⊑_meet κ p (t ++ [] ++ (t ++ [] ++ [] ++ [])) ghost_value all in
    let second = ⊑_meet κ (q ++ f) [] (⊑_meet κ q f from made) n in
    let both = ⊑_meet κ (p ++ (t ++ [] ++ (t ++ [] ++ [] ++ []))) (q ++ f ++ []) first second in
    ⊑_meet κ (p ++ (t ++ [] ++ (t ++ [] ++ [] ++ [])) ++ (q ++ f ++ [])) (p ++ (t ++ [] ++ (t ++ [] ++ [] ++ [])) ++ (q ++ f ++ [])) both both
