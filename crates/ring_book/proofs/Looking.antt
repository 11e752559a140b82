-- What the book finds at the end of a cell's ring.
use Rattle.std.proofs.Common.{◌≡◌, ℕ, suc, Bool, ◌-◌, ◌<◌, ◌++◌, List, [], ◌∷◌, Some, slice_get, get_or, length, arith, refl, subst}
use Rattle.std.proofs.lemmas.Option.{slice_get_read}
use Rattle.rtrb.specs.Ring.{sent, received, known_items, ConsumerLooked, ProducerLooked}
use mathlib.Core.List.{IsPrefix}
use Rattle.ring_book_lines.specs.Lines.{steps_of, IsDeliverable}
use Rattle.ring_book_lines.specs.Logs.{LogView}
use Rattle.ring_book_lines.specs.Machines.{Machine}
use Rattle.ring_book_lines.specs.Steps.{StepView, LineView}
use Rattle.ring_book.specs.Books.{IsBook, IsReadingEnd, ReadingEnd}
use Rattle.ring_book.specs.Cells.{IsCell}
use Rattle.ring_book.specs.JournalEnds.{Name}
use Rattle.ring_book.specs.Openings.{Writer}
use Rattle.ring_book.specs.AnswerIndex.{AnswerIndexView}
use Rattle.ring_book.proofs.Entering.{Looked, one_left, first_same}

module _ {S A : Type 0} {m : Machine S A} {IsSound : S → Type 0} {name : Name A} {lines : List (LineView A)}
    {ends : List (ReadingEnd A)} {answer_indexes : List AnswerIndexView} {log : LogView} {reserved capacity places space room me : ℕ}
    {ahead : Bool} {node : S} {p : Writer A} {n : ℕ} where
  -- the reading end of a cell's ring is in the book at its node's number
  pub own_end : {c : ReadingEnd A} → IsBook m name lines reserved ends answer_indexes log capacity places space → IsCell m IsSound name me ahead node p room
      → n ≡ me → c ≡ get_or ends (n - 1) c → (suc (n - 1) ≡ me) × (slice_get ends (n - 1) ≡ Some c)
  own_end {c} book cell value read =
      let within : n - 1 < length ends = omega (arith, value, cell.counted, cell.in_book, book.count) in
      (omega (arith, value, cell.counted), slice_get_read ends (length ends) (n - 1) c refl within read)

  -- and so are the answers of its tickets
  pub own_told : {t : AnswerIndexView} → IsBook m name lines reserved ends answer_indexes log capacity places space → IsCell m IsSound name me ahead node p room
      → n ≡ me → t ≡ get_or answer_indexes (n - 1) t → slice_get answer_indexes (n - 1) ≡ Some t
  own_told {t} book cell value read =
      let within : n - 1 < length answer_indexes = omega (arith, value, cell.counted, cell.in_book, book.told_count) in
      slice_get_read answer_indexes (length answer_indexes) (n - 1) t refl within read

module _ {A : Type 0} (p q : Writer A) (c d : ReadingEnd A) where
  -- the reader looked beside the writer
  pub looked : ConsumerLooked c d → ProducerLooked p q → received d ++ known_items d ≡ sent q → Looked p q c d
  looked reader writer fifo = record {
    same_reader = reader.0;
    received_is = reader.1;
    same_writer = writer.0;
    sent_is = writer.1;
    fifo = fifo;
  }

-- the one step of the ring: it is the journal's last, and all before it are in the book
pub record Comes {A : Type 0} (lines : List (LineView A)) (me : ℕ) (p : Writer A) (d : ReadingEnd A) (x : StepView A) : Type 0 where
  pub alone : known_items d ≡ x ∷ []
  pub last : sent p ≡ steps_of me lines ++ x ∷ []

pub comes : {A : Type 0} (name : Name A) (lines : List (LineView A)) (i me : ℕ) (p q : Writer A) (c d : ReadingEnd A) (x : StepView A)
    → suc i ≡ me → IsReadingEnd name lines i c → Looked p q c d → IsPrefix (x ∷ []) (known_items d) → Comes lines me p d x
comes name lines i me p q c d x is end look first =
    let left = one_left name lines i p q c d x end look first in
    record { alone = left.0; last = subst (λ (k : ℕ). sent p ≡ steps_of k lines ++ x ∷ []) is left.1 }

-- the step taken out is the one that was inspected and found
pub found_first : {A : Type 0} (lines : List (LineView A)) (items : List (StepView A)) (x y : StepView A)
    → IsPrefix (y ∷ []) items → IsPrefix (x ∷ []) items → IsDeliverable lines y.node y.input → IsDeliverable lines x.node x.input
found_first {A} lines items x y looks comes found =
    subst (λ (z : StepView A). IsDeliverable lines z.node z.input) (first_same items y x looks comes) found
