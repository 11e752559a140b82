use Rattle.std.proofs.Common.{◌-◌, arith}
use Rattle.ring_book_lines.specs.Machines.{node_machine}
use Rattle.ring_book.proofs.Entering.{book_releases}
use Rattle.ring_book.proofs.book.Book.release.Goals as goal

pub invariant_of-self : goal.invariant_of-self
invariant_of-self g c =
    book_releases (node_machine g.O.Object.sequential g.K.BookName.name.group)
    g.K.BookName.name c.self.inside.lines.items c.self.inside.reserved (c.self.inside.reserved - 1)
    c.self.inside.journal_ends.items c.self.inside.answer_indexes.items _ _ _ _ c.self.invariant (omega arith)
