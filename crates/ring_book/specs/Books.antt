-- The invariant of a book, and the effect of entering a step.
-- Rules: The book and the threads 11, 15 to 18
use Rattle.std.specs.Prelude.{ℕ, suc, ◌≡◌, ◌≤◌, ◌+◌, ◌⊎◌, false, List, [], ◌∷◌, ◌++◌, Some, slice_get, length}
use Rattle.rtrb.specs.declared.consumer.Consumer.{Consumer}
use Rattle.rtrb.specs.declared.AnyItems.{AnyItems}
use Rattle.rtrb.specs.Ring.{received, consumer_capacity}
use Rattle.ring_book_lines.specs.Answers.{answers_of_node}
use Rattle.ring_book.specs.JournalEnds.{Name, ring_of_consumer}
use Rattle.ring_book_lines.specs.Lines.{steps_of, IsDeliverable}
use Rattle.ring_book_lines.specs.Machines.{Machine}
use Rattle.ring_book_lines.specs.Logs.{LogView, log_of_lines}
use Rattle.ring_book_lines.specs.Runs.{IsBookRun}
use Rattle.ring_book.specs.BookViews.{CellView, BookView}
use Rattle.ring_book.specs.AnswerIndex.{AnswerIndexView}
use Rattle.ring_book_lines.specs.Steps.{StepView, LineView}
use Rattle.ring_base.specs.Numbers.{max_frame_bytes}

-- the greatest number of lines in a book
abbrev pub max_places : ℕ
max_places = 262144

-- the reading end of a journal; the book has one for each node
abbrev pub ReadingEnd : Type 0 → Type 0
ReadingEnd A = Consumer (StepView A) A AnyItems

-- the end belongs to the journal of the node at index i, and the steps received through it are that node's steps
pub record IsReadingEnd {A : Type 0} (name : Name A) (lines : List (LineView A)) (i : ℕ) (c : ReadingEnd A) : Type 0 where
  pub ring : slice_get name.rings i ≡ Some (ring_of_consumer c)
  pub received_steps : received c ≡ steps_of (suc i) lines
  pub one : consumer_capacity c ≡ 1

-- the answers of the node at index i are those of the lines, and there is room for the reserved places
pub record HasNodeAnswers {A : Type 0} (lines : List (LineView A)) (reserved i : ℕ) (t : AnswerIndexView) : Type 0 where
  pub told_is : t.answers ≡ answers_of_node (suc i) lines
  pub room : length t.answers + reserved ≤ t.room

module _ {S A : Type 0} (m : Machine S A) where
  -- the lines are a run and have the numbers of their places, each end has received its node's steps, and there is room
  -- for the reserved places
  pub record IsBook (name : Name A) (lines : List (LineView A)) (reserved : ℕ) (ends : List (ReadingEnd A))
      (answer_indexes : List AnswerIndexView) (log : LogView) (capacity places space : ℕ)
      : Type 0 where
    pub few : name.group.count ≤ 16
    pub count : length ends ≡ name.group.count
    pub told_count : length answer_indexes ≡ name.group.count
    pub each : (i : ℕ) (c : ReadingEnd A) → slice_get ends i ≡ Some c → IsReadingEnd name lines i c
    pub tells : (i : ℕ) (t : AnswerIndexView) → slice_get answer_indexes i ≡ Some t → HasNodeAnswers lines reserved i t
    pub run : IsBookRun m name.group.count lines
    pub numbered : (i : ℕ) (l : LineView A) → slice_get lines i ≡ Some l → l.number ≡ i
    pub room : length lines + reserved ≤ capacity
    pub limit : length lines + reserved ≤ max_places
    pub log_is : log ≡ log_of_lines lines
    pub log_room : length log.segments + reserved ≤ places
    pub text : max_frame_bytes ≤ space

module _ {S A : Type 0} where
  -- the cell's one step was added at the end of the list as a line, and the frame that it delivers was in the list before.
  -- The journal is then the node's steps in the book
  pub record HasEntered (old new : BookView A) (cell cell' : CellView S A) : Type 0 where
    pub step : StepView A
    pub was : cell.journal ≡ steps_of cell.me old.lines ++ step ∷ []
    pub found : IsDeliverable old.lines step.node step.input
    pub lines : new.lines ≡ old.lines ++ record { number = length old.lines; step = step } ∷ []
    pub reserved : old.reserved ≡ new.reserved + 1
    pub journal : cell'.journal ≡ steps_of cell.me new.lines
    pub cell_is : cell' ≡ record { me = cell.me; ahead = false; node = cell.node; journal = cell.journal }

  -- why `enter` refuses: no place is reserved, all steps are entered, or a delivered frame is not in the list
  abbrev pub IsStrange : BookView A → CellView S A → Type 0
  IsStrange b c = (b.reserved ≡ 0) ⊎ (c.journal ≡ steps_of c.me b.lines)
      ⊎ ((l : StepView A) × (c.journal ≡ steps_of c.me b.lines ++ l ∷ []) × (IsDeliverable b.lines l.node l.input → ⊥))
