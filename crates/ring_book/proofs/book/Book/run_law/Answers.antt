use Rattle.ring_book.proofs.book.Book.run_law.Goals as goal

pub returns-clause-run : goal.returns-clause-run
returns-clause-run g c = rw (← c.self.view_is)
    (c.book_run_law.ensures.runs g.K.BookName.name.group c.self.inside.lines.items c.self.invariant.few c.self.invariant.run)

pub returns-clause-numbered : goal.returns-clause-numbered
returns-clause-numbered g c = rw (← c.self.view_is) c.self.invariant.numbered

pub returns-clause-few : goal.returns-clause-few
returns-clause-few g c = c.self.invariant.few
