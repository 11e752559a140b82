-- The views of a cell and of a book in contracts.
-- Rules: The book and the threads 9 and 13
use Rattle.std.specs.Prelude.{ℕ, Bool, List}
use Rattle.ring_book_lines.specs.Steps.{StepView, LineView}

-- a processor, its node, and its journal; `ahead` means that the journal's last step is not entered yet
pub record CellView (S A : Type 0) : Type 0 where
  pub me : ℕ
  pub ahead : Bool
  pub node : S
  pub journal : List (StepView A)

-- the lines, and the number of reserved places
pub record BookView (A : Type 0) : Type 0 where
  pub lines : List (LineView A)
  pub reserved : ℕ
