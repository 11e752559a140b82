-- The result of `enter`.
-- Rules: The book and the threads 15 and 16
use Rattle.std.specs.Prelude.{◌≡◌, ◌-◌, Result, MatchResult, Some, slice_get, length}
use Rattle.std.specs.Borrow.{Bor}
use Rattle.ring_base.specs.declared.fault.Fault.{Fault}
use Rattle.ring_base.specs.declared.fault.Fault.TheVariants.{Stranger}
use Rattle.ring_book.specs.Books.{HasEntered, IsStrange}
use Rattle.ring_book_lines.specs.Steps.{LineView}
use Rattle.ring_book.specs.BookViews.{CellView, BookView}

-- at Ok the step was added at the end and its line is borrowed; at Stranger book and cell are unchanged
abbrev pub IsEnterResult : {S A : Type 0} → BookView A → BookView A → CellView S A → CellView S A → Result (Bor (LineView A)) Fault → Type 0
IsEnterResult {S} {A} old new cell cell' r = MatchResult r
    (λ l. HasEntered old new cell cell' × (slice_get new.lines (length new.lines - 1) ≡ Some l.now))
    (λ e. (e ≡ Stranger) × (new ≡ old) × (cell' ≡ cell) × IsStrange old cell)
