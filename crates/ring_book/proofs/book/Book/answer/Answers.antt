use Rattle.std.proofs.Common.{◌≡◌, ◌-◌, ◌∙◌, None, Some, slice_get, arith, refl, sym}
use Rattle.ring_book.proofs.Entering.{none_answers, told_answers}
use Rattle.ring_base.proofs.ListPlaces.{none-length}
use Rattle.ring_book.proofs.book.Book.answer.Goals as goal

pub returns-in-Some : goal.returns-in-Some
returns-in-Some g c =
    let i = c.args.node - 1 in
    let e = rw c.as_slice.ensures.value at c.in-Some.ensures in
    let there : slice_get c.self.inside.answer_indexes.items i ≡ Some c.in-Some.answer_indexes.now = sym e.lookup in
    rw (← c.self.view_is) (c.answer.ensures ∙ told_answers c.self.inside.lines.items c.self.inside.reserved i c.args.node c.args.ticket c.in-Some.answer_indexes.now
    (c.self.invariant.tells i c.in-Some.answer_indexes.now there) refl e.counted)

pub returns-in-None : goal.returns-in-None
returns-in-None g c =
    let e = rw c.as_slice.ensures.value at c.in-None.ensures in
    let there : slice_get c.self.inside.answer_indexes.items (c.args.node - 1) ≡ None = sym e.lookup in
    let past = none-length c.self.inside.answer_indexes.items (c.args.node - 1) there in
    rw (← c.self.view_is) (none_answers g.K.BookName.name.group.count c.args.node c.args.ticket c.self.inside.lines.items
    (omega (arith, past, c.self.invariant.told_count, e.counted)) c.self.invariant.run.inside)
