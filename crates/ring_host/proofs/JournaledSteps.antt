-- A step that a cell journaled, and the line that the book made of it.
use Rattle.std.proofs.Common.{◌≡◌, ℕ, ◌<◌, ◌++◌, List, [], ◌∷◌, Result, Ok, Err, length, sym, ap, subst, ◌∙◌, inl, inr, arith, length-append}
use Rattle.std.specs.Borrow.{Bor}
use Rattle.ring_base.specs.declared.fault.Fault.{Fault}
use Rattle.ring_payload.specs.declared.call.Call.{Call}
use Rattle.ring_book_lines.specs.declared.input.LineInput.{LineInput}
use Rattle.ring_book_lines.specs.declared.input.LineInput.TheVariants.{Submitted}
use Rattle.ring_book_lines.specs.Lines.{steps_of, IsDeliverable}
use Rattle.ring_book_lines.specs.Machines.{Machine}
use Rattle.ring_book_lines.specs.Runs.{IsStep}
use Rattle.ring_book_lines.specs.Steps.{StepView, LineView}
use Rattle.ring_book.specs.Books.{HasEntered, IsStrange}
use Rattle.ring_book.specs.Cells.{HasJournaled}
use Rattle.ring_book.specs.Entered.{IsEnterResult}
use Rattle.ring_book.specs.BookViews.{CellView, BookView}
use Rattle.ring_host.specs.LockedSteps.{IsPast, IsEntered, IsCallRefused}

-- Two equal lists end with the same element.
pub last_same : {T : Type 0} (xs ys : List T) (x y : T) → xs ++ x ∷ [] ≡ ys ++ y ∷ [] → x ≡ y
last_same [] [] x y e = let same : x ∷ [] ≡ y ∷ [] = e in cc
last_same [] (b ∷ ys) x y e = let n = ap length e in absurd (omega (arith, n, length-append ys (y ∷ [])))
last_same (a ∷ xs) [] x y e = let n = ap length e in absurd (omega (arith, n, length-append xs (x ∷ [])))
last_same (a ∷ xs) (b ∷ ys) x y e =
    let all : a ∷ (xs ++ x ∷ []) ≡ b ∷ (ys ++ y ∷ []) = e in
    let behind : xs ++ x ∷ [] ≡ ys ++ y ∷ [] = cc in
    last_same xs ys x y behind

module _ {S A : Type 0} (m : Machine S A) where
  -- A step that a cell journaled and the book entered is the same in both.
  step_entered : (old mid new : CellView S A) (book book' : BookView A) (input : LineInput A) → HasJournaled m old mid input → HasEntered book book' mid new
      → IsEntered m old new book.lines book'.lines input
  step_entered old mid new book book' input j e =
      let one : e.step ≡ j.step = last_same (steps_of mid.me book.lines) old.journal e.step j.step (sym e.was ∙ j.journal) in
      let node : new.node ≡ mid.node = ap (λ (c : CellView S A). c.node) e.cell_is in
      record {
        step = j.step;
        step_node = j.step_node;
        step_input = j.step_input;
        stepped = subst (λ (n : S). IsStep m old.node j.step n) (sym node) j.stepped;
        journal = ap (λ (c : CellView S A). c.journal) e.cell_is ∙ j.journal;
        ahead = ap (λ (c : CellView S A). c.ahead) e.cell_is;
        me = ap (λ (c : CellView S A). c.me) e.cell_is ∙ j.me;
        same = subst (λ (n : ℕ). new.journal ≡ steps_of n book'.lines) j.me e.journal;
        line = subst (λ (s : StepView A). book'.lines ≡ book.lines ++ record { number = length book.lines; step = s } ∷ []) one e.lines;
      }

  -- A call that a cell journaled is refused by the book only if the lines are past the cell.
  call_strange : (old mid : CellView S A) (book : BookView A) (call : Call A) → HasJournaled m old mid (Submitted call) → 0 < book.reserved
      → IsStrange book mid → IsPast old book.lines
  call_strange old mid book call j some strange =
      elim strange [
        | inl none ↦ absurd (omega (arith, some, none))
        | inr r ↦ elim r [
          | inl all ↦ (j.step, subst (λ (n : ℕ). steps_of n book.lines ≡ old.journal ++ j.step ∷ []) j.me (sym all ∙ j.journal))
          | inr lost ↦
              let one : lost.0 ≡ j.step = last_same (steps_of mid.me book.lines) old.journal lost.0 j.step (sym lost.1 ∙ j.journal) in
              let input : lost.0.input ≡ Submitted call = ap (λ (s : StepView A). s.input) one ∙ j.step_input in
              let found = subst (λ (i : LineInput A). IsDeliverable book.lines lost.0.node i) (sym input) tt in
              absurd (lost.2 found)
        ]
      ]

  -- `enter` of a journaled step succeeded: it is entered.
  pub line_entered : (old mid new : CellView S A) (book book' : BookView A) (input : LineInput A) (r : Result (Bor (LineView A)) Fault)
      (l : Bor (LineView A)) → HasJournaled m old mid input → IsEnterResult book book' mid new r → r ≡ Ok l
      → IsEntered m old new book.lines book'.lines input
  line_entered old mid new book book' input r l j gives is =
      let e = subst (λ (x : Result (Bor (LineView A)) Fault). IsEnterResult book book' mid new x) is gives in
      step_entered old mid new book book' input j e.0

  -- `enter` of a journaled call was refused: the reason.
  pub line_refused : (old mid new : CellView S A) (book book' : BookView A) (call : Call A) (r : Result (Bor (LineView A)) Fault) (fault : Fault)
      → HasJournaled m old mid (Submitted call) → 0 < book.reserved → IsEnterResult book book' mid new r → r ≡ Err fault
      → IsCallRefused m old new book.lines fault
  line_refused old mid new book book' call r fault j some gives is =
      let e = subst (λ (x : Result (Bor (LineView A)) Fault). IsEnterResult book book' mid new x) is gives in
      inr (e.0, call_strange old mid book call j some e.3)
