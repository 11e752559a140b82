use Rattle.ring_book.proofs.book.Book.history.Goals as goal

pub returns-clause-ok : goal.returns-clause-ok
returns-clause-ok g c = rw (← c.self.view_is) (rw c.as_slice.ensures.value at c.history_of_lines.ensures.ok)
