use Rattle.std.proofs.Common.{refl}
use Rattle.std.specs.Prelude.{IsTrue, ◌↔◌}
use Rattle.ring_book_lines.specs.Lines.{HasBytesAt}
use Rattle.ring_book_lines.specs.Machines.{node_machine}
use Rattle.ring_book.proofs.Entering.{book_texts}
use Rattle.ring_book.proofs.book.Book.check.Goals as goal
use Rattle.ring_book.proofs.book.Book.check.Goals.{then-has_bytes_at, else-has_bytes_at}

pub invariant_of-self : goal.invariant_of-self
invariant_of-self g c =
    book_texts (node_machine g.O.Object.sequential g.K.BookName.name.group)
    g.K.BookName.name c.self.inside.lines.items c.self.inside.reserved c.self.inside.journal_ends.items
    c.self.inside.answer_indexes.items _ _ _ _ _ c.self.invariant c.has_bytes_at.ensures.room

pub has_bytes_at-requires : goal.has_bytes_at-requires
has_bytes_at-requires g c = c.self.invariant.text

pub returns-clause-ok : goal.returns-clause-ok
returns-clause-ok g c =
    let found : IsTrue c.has_bytes_at.result ↔ HasBytesAt c.args.self.now.lines c.args.at c.args.node c.args.bytes.now =
    rw (← c.self.view_is) (rw c.as_slice.ensures.value at c.has_bytes_at.ensures.found) in
    elim c.if-has_bytes_at.branch [
      | then-has_bytes_at w ↦ rw w.result-is ((λ _. found.0 w.if-has_bytes_at.true), (λ _. refl))
      | else-has_bytes_at w ↦ rw w.result-is ((λ x. absurd (cc x)), (λ s. let t = found.1 s in absurd (cc (t, w.if-has_bytes_at.false))))
    ]

pub returns-clause-err : goal.returns-clause-err
returns-clause-err g c = elim c.if-has_bytes_at.branch [ then-has_bytes_at w ↦ rw w.result-is tt | else-has_bytes_at w ↦ rw w.result-is refl ]
