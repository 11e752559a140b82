-- The lifetimes of the borrowed values last at least as long as the borrow.
use Rattle.std.proofs.Common.{ℕ, List, [], ◌++◌}
use contract.BorrowLft.{◌⊑◌, ⊑_meet, ⊑_static}
use Rattle.ring_window.proofs.held_history.with_held_message.Goals as goal

lent : (κ p q m : List ℕ) → κ ⊑ p → κ ⊑ q → κ ⊑ m
    → κ ⊑ (p ++ (m ++ [] ++ (m ++ [] ++ [] ++ [])) ++ (q ++ m ++ []) ++ (p ++ (m ++ [] ++ (m ++ [] ++ [] ++ [])) ++ (q ++ m ++ [])))
lent κ p q m history message text =
    let n = ⊑_static κ in
    let one = ⊑_meet κ m [] text n in
    let three = ⊑_meet κ (m ++ [] ++ []) [] (⊑_meet κ (m ++ []) [] one n) n in
    let all = ⊑_meet κ (m ++ []) (m ++ [] ++ [] ++ []) one three in
    let first = ⊑_meet κ p (m ++ [] ++ (m ++ [] ++ [] ++ [])) history all in
    let second = ⊑_meet κ (q ++ m) [] (⊑_meet κ q m message text) n in
    let both = ⊑_meet κ (p ++ (m ++ [] ++ (m ++ [] ++ [] ++ []))) (q ++ m ++ []) first second in
    ⊑_meet κ (p ++ (m ++ [] ++ (m ++ [] ++ [] ++ [])) ++ (q ++ m ++ [])) (p ++ (m ++ [] ++ (m ++ [] ++ [] ++ [])) ++ (q ++ m ++ [])) both both

pub ghost_of-requires : goal.ghost_of-requires
ghost_of-requires g c κs within = (within.1.0, lent κs.1.1.0 κs.1.1.1.0 κs.1.1.1.1.0 g.row.M.lives within.0.0 within.0.1.0 within.1.1.0)
