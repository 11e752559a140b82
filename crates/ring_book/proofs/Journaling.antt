-- A cell whose journal got one more step.
use Rattle.std.proofs.Common.{◌≡◌, ℕ, ◌≤◌, ◌++◌, List, [], ◌∷◌, ◌∙◌, Bool, true, false}
use Rattle.rtrb.specs.Ring.{sent, SameProducer}
use Rattle.ring_book.specs.Cells.{IsCell, AllOf}
use Rattle.ring_book.specs.JournalEnds.{Name, ring_of_producer}
use Rattle.ring_book_lines.specs.Machines.{Machine}
use Rattle.ring_book.specs.Openings.{Writer}
use Rattle.ring_book_lines.specs.Runs.{IsStep}
use Rattle.ring_book_lines.specs.Steps.{StepView}
use Rattle.ring_book_lines.proofs.Leading.{LeadsToState-snoc}
use Rattle.ring_base.specs.Numbers.{max_frame_bytes}

pub ring_stays : {A : Type 0} (p q : Writer A) → SameProducer p q → ring_of_producer q ≡ ring_of_producer p
ring_stays p q h = cc

-- steps of one node, with one more
AllOf-snoc : {A : Type 0} (i : ℕ) (ls : List (StepView A)) (l : StepView A) → AllOf i ls → l.node ≡ i → AllOf i (ls ++ l ∷ [])
AllOf-snoc i [] l h e = (e, tt)
AllOf-snoc i (x ∷ ls) l h e = (h.0, AllOf-snoc i ls l h.1 e)

pub AllOf-last : {A : Type 0} (i : ℕ) (ls : List (StepView A)) (l : StepView A) → AllOf i (ls ++ l ∷ []) → l.node ≡ i
AllOf-last i [] l h = h.0
AllOf-last i (x ∷ ls) l h = AllOf-last i ls l h.1

pub cell_adds : {S A : Type 0} (m : Machine S A) (IsSound : S → Type 0) (name : Name A) (me : ℕ) (ahead : Bool) (node node' : S)
    (p q : Writer A) (space space' : ℕ) (l : StepView A)
    → IsCell m IsSound name me ahead node p space → l.node ≡ me → IsStep m node l node' → IsSound node' → max_frame_bytes ≤ space'
    → SameProducer p q → sent q ≡ sent p ++ l ∷ [] → IsCell m IsSound name me true node' q space'
cell_adds m IsSound name me ahead node node' p q space space' l k mine step sound text same e = record {
  counted = k.counted;
  in_book = k.in_book;
  ring = rw (ring_stays p q same) k.ring;
  leads = rw e (LeadsToState-snoc m (m.opening me) (sent p) node node' l k.leads step);
  mine = rw e (AllOf-snoc me (sent p) l k.mine mine);
  free = λ f. cc;
  room = same.1 ∙ k.room;
  sound = sound;
  text = text;
}
