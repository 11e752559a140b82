-- Steps and submits with a node's cell and the book locked.
-- Rules: The book and the threads 15, 16, 21, 22 and 24
use Rattle.std.specs.Prelude.{ℕ, ◌≡◌, ◌≤◌, ◌+◌, ◌-◌, ◌⊎◌, true, false, List, [], ◌∷◌, ◌++◌, Result, Err, slice_get, length, IsSomeAnd, All}
use Rattle.ring_base.specs.declared.fault.Fault.{Fault}
use Rattle.ring_base.specs.declared.fault.Fault.TheVariants.{BookFull, Memory, Stranger}
use Rattle.ring_base.specs.Group.{Group}
use Rattle.ring_object.specs.Operations.{Sequential}
use Rattle.ring_node_spec.specs.Nodes.{Node}
use Rattle.ring_book_lines.specs.declared.input.LineInput.{LineInput}
use Rattle.ring_book_lines.specs.Lines.{steps_of}
use Rattle.ring_book_lines.specs.Machines.{Machine}
use Rattle.ring_book_lines.specs.Runs.{IsStep}
use Rattle.ring_book_lines.specs.AppendedFrames.{OutgoingFrame, IsCopyOf}
use Rattle.ring_book_lines.specs.Steps.{StepView, LineView}
use Rattle.ring_book.specs.Books.{max_places, HasEntered, IsStrange}
use Rattle.ring_book.specs.Cells.{SubmitRefused}
use Rattle.ring_book.specs.Lines.{IsRun}
use Rattle.ring_book.specs.BookViews.{CellView, BookView}
use Rattle.ring_host.specs.Steps.{node_after_lines}
use Rattle.ring_seat.specs.OutboxFrames.{FrameCopy}

-- All places of the book are used or reserved.
abbrev pub IsFull : {A : Type 0} → BookView A → Type 0
IsFull book = length book.lines + book.reserved ≡ max_places

-- One reserved place is released, if there was one.
abbrev pub IsReleased : {A : Type 0} → BookView A → BookView A → Type 0
IsReleased old new = (new.lines ≡ old.lines) × (new.reserved ≡ old.reserved - 1)

-- Each is a copy of a frame that was sent, with its place, its receivers and its bytes.
abbrev pub AreCopiesOf : {A : Type 0} → List (OutgoingFrame A) → List FrameCopy → Type 0
AreCopiesOf sent = All (λ (copy : FrameCopy). IsCopyOf sent copy.place copy.to copy.bytes)

-- The last of the lines sent this number of frames.
abbrev pub HasSent : {A : Type 0} → List (LineView A) → ℕ → Type 0
HasSent {A} lines sent = IsSomeAnd (slice_get lines (length lines - 1)) (λ (l : LineView A). sent ≡ length l.step.frames)

-- The first reason that applies why a turn gets no place: its frame isn't in the book; the book is full; an allocation
-- failed.
abbrev pub IsPlaceFault : {A : Type 0} → Type 0 → BookView A → Fault → Type 0
IsPlaceFault stands book Stranger = stands → ⊥
IsPlaceFault stands book BookFull = stands × IsFull book
IsPlaceFault stands book Memory = stands × (IsFull book → ⊥)
IsPlaceFault stands book _ = ⊥

module _ {S A : Type 0} where
  -- The lines have one step of the cell's node more than the cell's journal.
  abbrev pub IsPast : CellView S A → List (LineView A) → Type 0
  IsPast cell lines = (s : StepView A) × (steps_of cell.me lines ≡ cell.journal ++ s ∷ [])

  -- The reason why a step reports nothing. Either an allocation failed in it, and the node's stop is entered; or its
  -- place is released and the cell is unchanged, since the step was refused for another reason or can't be entered.
  abbrev pub IsUntold : Result (Unit {0}) Fault → BookView A → BookView A → CellView S A → CellView S A → Fault → Type 0
  IsUntold stepped old new cell cell' fault =
      ((fault ≡ Memory) × (stepped ≡ Err Memory) × HasEntered old new cell cell')
      ⊎ ((((stepped ≡ Err fault) × (fault ≡ Memory → ⊥)) ⊎ ((fault ≡ Stranger) × IsStrange old cell)) × IsReleased old new × (cell' ≡ cell))

  -- A step with this result is finished. Either its line is entered, so the cell isn't ahead; or the cell stays as the
  -- step left it, since the step was refused other than by a failed allocation, or since the call reports that the line
  -- can't be entered.
  abbrev pub IsFinished : {T : Type 0} → Result (Unit {0}) Fault → Result T Fault → CellView S A → CellView S A → Type 0
  IsFinished stepped result cell cell' =
      (cell'.ahead ≡ false)
      ⊎ ((cell' ≡ cell) × (((fault : Fault) × (stepped ≡ Err fault) × (fault ≡ Memory → ⊥)) ⊎ (result ≡ Err Stranger)))

  -- The cell is left a line ahead only if it was so before, or if the call reports that the line can't be entered.
  abbrev pub IsSettled : {T : Type 0} → Result T Fault → CellView S A → CellView S A → Type 0
  IsSettled result cell cell' = cell'.ahead ≡ true → (cell.ahead ≡ true) ⊎ (result ≡ Err Stranger)

module _ {S A : Type 0} (m : Machine S A) where
  -- The cell's node did one step on this input, and it is the new last line. The journal is again the lines of that
  -- node, and the cell is not ahead.
  pub record IsEntered (cell cell' : CellView S A) (lines lines' : List (LineView A)) (input : LineInput A) : Type 0 where
    pub step : StepView A
    pub step_node : step.node ≡ cell.me
    pub step_input : step.input ≡ input
    pub stepped : IsStep m cell.node step cell'.node
    pub journal : cell'.journal ≡ cell.journal ++ step ∷ []
    pub ahead : cell'.ahead ≡ false
    pub me : cell'.me ≡ cell.me
    pub same : cell'.journal ≡ steps_of cell.me lines'
    pub line : lines' ≡ lines ++ record { number = length lines; step = step } ∷ []

  -- The reason why a call isn't entered in a reserved place: the cell refuses it and is unchanged, or the lines are
  -- past the cell.
  abbrev pub IsCallRefused : CellView S A → CellView S A → List (LineView A) → Fault → Type 0
  IsCallRefused cell cell' lines fault = (SubmitRefused m cell fault × (cell' ≡ cell)) ⊎ ((fault ≡ Stranger) × IsPast cell lines)

  -- The first reason that applies why a call isn't submitted: the book is full; an allocation for its place failed; it
  -- isn't entered.
  abbrev pub IsSubmitRefused : CellView S A → CellView S A → BookView A → Fault → Type 0
  IsSubmitRefused cell cell' book fault =
      ((fault ≡ BookFull) × IsFull book × (cell' ≡ cell))
      ⊎ ((IsFull book → ⊥) × (((fault ≡ Memory) × (cell' ≡ cell)) ⊎ IsCallRefused cell cell' book.lines fault))

module _ {O A : Type 0} (object : Sequential O) (group : Group) where
  -- The lines of some book are a run of the group and end with the cell's step, which sent `sent` frames. The cell's
  -- node is a member, and its state is the one after that run.
  pub record IsEndOfRun (cell cell' : CellView (Node A) A) (sent : ℕ) : Type 0 where
    pub book : BookView A
    pub book' : BookView A
    pub entered : HasEntered book book' cell cell'
    pub frames : HasSent book'.lines sent
    pub is_run : IsRun object group book'.lines
    pub member : (1 ≤ cell'.me) × (cell'.me ≤ group.count)
    pub node : cell'.node ≡ node_after_lines object group book'.lines cell'.me
