-- The number of cells that an opening gives.
use Rattle.std.proofs.Common.{◌≡◌, ℕ, zero, suc, ◌<◌, ◌≤◌, ◌∷◌, [], List, ap, ◌∙◌, length, refl, arith, length-append}
use Rattle.ring_book.specs.Lines.{Machine}
use Rattle.ring_book.specs.Openings.{new_cells, new_cell}
use Rattle.ring_book.specs.BookViews.{CellView}

pub length-new_cells : {S A : Type 0} (m : Machine S A) (n : ℕ) → length (new_cells m n) ≡ n
length-new_cells m zero = refl
length-new_cells m (suc n) = let h = length-new_cells m n in omega (arith, h, length-append (new_cells m n) (new_cell m (suc n) ∷ []))

-- Cells that are the new ones of `n` nodes are `n`.
pub count_of : {S A : Type 0} (m : Machine S A) (n : ℕ) (cells : List (CellView S A)) → cells ≡ new_cells m n → length cells ≡ n
count_of m n cells h = ap length h ∙ length-new_cells m n

-- A property of a number holds of its equal.
pub at_least : (n k : ℕ) → n ≡ k → 1 ≤ k → 1 ≤ n
at_least n k h some = omega arith

-- A number of at most sixteen fits a byte.
pub at_most : (n k : ℕ) → n ≡ k → k ≤ 16 → n ≤ 16
at_most n k h few = omega arith

pub in_byte : (n k : ℕ) → n ≡ k → k ≤ 16 → n < 256
in_byte n k h few = omega arith
