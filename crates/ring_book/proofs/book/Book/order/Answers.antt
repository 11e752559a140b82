use Rattle.std.proofs.Common.{◌∙◌, ap}
use Rattle.ring_book_lines.specs.Logs.{LogView}
use Rattle.ring_book.proofs.book.Book.order.Goals as goal

pub returns-clause-ok : goal.returns-clause-ok
returns-clause-ok g c =
    let ls = c.self.inside.lines.items in
    let run = c.book_run_law.ensures.runs g.K.BookName.name.group ls c.self.invariant.few c.self.invariant.run in
    let segments = c.as_slice-2.ensures.value ∙ ap (λ (v : LogView). v.segments) c.self.invariant.log_is in
    rw (← c.self.view_is) (rw (c.as_slice.ensures.value, segments, ← run.order) at c.order_of_segments.ensures.ok)
