-- A cell is left a line ahead only if it was so before, or if the call reports that its line can't be entered.
use Rattle.std.proofs.Common.{◌≡◌, true, false, List, Result, Ok, Err, OnOk, IfOk, IfErr, MatchResult, IsOk, inl, inr, ap, sym, ◌∙◌, true≢false}
use Rattle.ring_base.specs.declared.fault.Fault.{Fault}
use Rattle.ring_book.specs.Books.{HasEntered}
use Rattle.ring_book.specs.BookViews.{CellView, BookView}
use Rattle.ring_book_lines.specs.Machines.{Machine}
use Rattle.ring_book_lines.specs.declared.input.LineInput.{LineInput}
use Rattle.ring_book_lines.specs.Steps.{LineView}
use Rattle.ring_book.specs.Cells.{StepRefused}
use Rattle.ring_host.specs.LockedSteps.{IsEntered, IsSubmitRefused, IsUntold, IsFinished, IsSettled}

module _ {S A : Type 0} where
  not_ahead : (book book' : BookView A) (mid new : CellView S A) → HasEntered book book' mid new → new.ahead ≡ false
  not_ahead book book' mid new e = ap (λ (c : CellView S A). c.ahead) e.cell_is

  -- A step that was entered, or why it was not.
  pub finished_so : {T : Type 0} (r : Result T Fault) (stepped : Result (Unit {0}) Fault) (book book' : BookView A) (mid new : CellView S A)
      → OnOk r (HasEntered book book' mid new) → IfErr r (IsUntold stepped book book' mid new) → IsFinished stepped r mid new
  finished_so (Ok x) stepped book book' mid new entered why = inl (not_ahead book book' mid new entered)
  finished_so (Err fault) stepped book book' mid new entered (inl stopped) = inl (not_ahead book book' mid new stopped.2)
  finished_so (Err fault) stepped book book' mid new entered (inr (inl refused, released, same)) = inr (same, inl (fault, refused.0, refused.1))
  finished_so (Err fault) stepped book book' mid new entered (inr (inr strange, released, same)) = inr (same, inr (ap Err strange.0))

  -- A cell that is unchanged is as far ahead as it was.
  ahead_before : (old new : CellView S A) → new ≡ old → new.ahead ≡ true → old.ahead ≡ true
  ahead_before old new same ahead = sym (ap (λ (c : CellView S A). c.ahead) same) ∙ ahead

  -- A submit that was entered, or why it was not.
  pub submit_settled : {T : Type 0} (m : Machine S A) (r : Result T Fault) (old new : CellView S A) (book : BookView A) (lines : List (LineView A))
      (input : LineInput A) → OnOk r (IsEntered m old new book.lines lines input) → IfErr r (IsSubmitRefused m old new book) → IsSettled r old new
  submit_settled m (Ok x) old new book lines input entered why ahead = absurd (true≢false (sym ahead ∙ entered.ahead))
  submit_settled m (Err fault) old new book lines input entered (inl full) ahead = inl (ahead_before old new full.2 ahead)
  submit_settled m (Err fault) old new book lines input entered (inr (room, inl memory)) ahead = inl (ahead_before old new memory.1 ahead)
  submit_settled m (Err fault) old new book lines input entered (inr (room, inr (inl refused))) ahead = inl (ahead_before old new refused.1 ahead)
  submit_settled m (Err fault) old new book lines input entered (inr (room, inr (inr past))) ahead = inr (ap Err past.0)
