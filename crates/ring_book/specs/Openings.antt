-- The invariant of an opening, and the new book and cells.
-- Rules: The book and the threads 12
use Rattle.std.specs.Prelude.{ℕ, zero, suc, ◌≡◌, ◌<◌, false, List, [], ◌∷◌, ◌++◌, map}
use Rattle.rtrb.specs.declared.producer.Producer.{Producer}
use Rattle.rtrb.specs.declared.AnyItems.{AnyItems}
use Rattle.rtrb.specs.Ring.{sent, known_free, producer_capacity, received, consumer_capacity}
use Rattle.ring_book.specs.Books.{ReadingEnd}
use Rattle.ring_book.specs.JournalEnds.{Ring, ring_of_producer, ring_of_consumer}
use Rattle.ring_book_lines.specs.Machines.{Machine}
use Rattle.ring_book.specs.BookViews.{CellView, BookView}
use Rattle.ring_book_lines.specs.Steps.{StepView}

-- the writing end of a journal; each cell has one
abbrev pub Writer : Type 0 → Type 0
Writer A = Producer (StepView A) A AnyItems

-- the rings of journals, by their writing ends
abbrev pub rings_of : {A : Type 0} → List (Writer A) → List (Ring A)
rings_of {A} ps = map (λ (p : Writer A). ring_of_producer p) ps

-- the reading end of a journal that was never used
pub record IsStartEnd {A : Type 0} (p : Writer A) (c : ReadingEnd A) : Type 0 where
  pub ring_is : ring_of_consumer c ≡ ring_of_producer p
  pub received_is : received c ≡ []
  pub one : consumer_capacity c ≡ 1

-- these are the reading ends of these journals, in order and in the same number
abbrev pub AllStartEnds : {A : Type 0} → List (Writer A) → List (ReadingEnd A) → Type 0
AllStartEnds [] [] = Unit {0}
AllStartEnds [] (c ∷ cs) = ⊥
AllStartEnds (p ∷ ps) [] = ⊥
AllStartEnds (p ∷ ps) (c ∷ cs) = IsStartEnd p c × AllStartEnds ps cs

-- a book without lines and without reserved places
abbrev pub empty_book : {A : Type 0} → BookView A
empty_book = record { lines = []; reserved = 0 }

module _ {S A : Type 0} (m : Machine S A) where
  -- a node at its opening, and the empty ring of its journal
  pub record IsStart (me : ℕ) (node : S) (p : Writer A) : Type 0 where
    pub node_is : node ≡ m.opening me
    pub sent_is : sent p ≡ []
    pub free : 0 < known_free p
    pub one : producer_capacity p ≡ 1

  -- the nodes from this processor on, with the writing ends of their journals
  abbrev pub AllStart : ℕ → List S → List (Writer A) → Type 0
  AllStart me [] [] = Unit {0}
  AllStart me [] (p ∷ ps) = ⊥
  AllStart me (n ∷ ns) [] = ⊥
  AllStart me (n ∷ ns) (p ∷ ps) = IsStart me n p × AllStart (suc me) ns ps

  -- a processor's cell with its node at its opening and an empty journal
  abbrev pub new_cell : ℕ → CellView S A
  new_cell me = record { me = me; ahead = false; node = m.opening me; journal = [] }

  -- a cell for each of the first n processors, ascending
  abbrev pub new_cells : ℕ → List (CellView S A)
  new_cells zero = []
  new_cells (suc n) = new_cells n ++ new_cell (suc n) ∷ []
