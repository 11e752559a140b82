use Rattle.std.proofs.Common.{◌+◌, arith, ap, length}
use Rattle.ring_book_lines.specs.Machines.{node_machine}
use Rattle.ring_book.proofs.Entering.{book_grows, roomier-length, told_stays, told_roomier}
use Rattle.ring_book.proofs.book.Book.reserve.Goals as goal

pub invariant_of-self : goal.invariant_of-self
invariant_of-self g c =
    let e = c.make_room.ensures in
    book_grows (node_machine g.O.Object.sequential g.K.BookName.name.group)
    g.K.BookName.name c.self.inside.lines.items c.make_room.new.lines.items c.self.inside.reserved
    c.self.inside.reserved c.self.inside.journal_ends.items c.self.inside.answer_indexes.items
    c.make_room.new.answer_indexes.items _ _ _ _ _ _ _ c.self.invariant e.lines
    (ap (λ ss. record { total = c.self.inside.longest_log_len; segments = ss }) e.segments)
    (roomier-length c.self.inside.answer_indexes.items c.make_room.new.answer_indexes.items e.answer_indexes)
    (told_stays c.self.inside.lines.items c.self.inside.reserved c.self.inside.answer_indexes.items c.make_room.new.answer_indexes.items
    e.answer_indexes c.self.invariant.tells)
    (omega (arith, e.lines_stay, c.self.invariant.room)) (omega (arith, e.segments_stay, c.self.invariant.log_room)) c.self.invariant.limit

pub invariant_of-self-2 : goal.invariant_of-self-2
invariant_of-self-2 g c =
    let e = c.in_ok-make_room.ensures in
    let lines = ap length e.lines in
    let segments = ap length e.segments in
    let seen = ap (λ b. length b.lines + b.reserved) c.self.view_is in
    book_grows (node_machine g.O.Object.sequential g.K.BookName.name.group)
    g.K.BookName.name c.self.inside.lines.items c.make_room.new.lines.items c.self.inside.reserved
    (c.self.inside.reserved + 1) c.self.inside.journal_ends.items c.self.inside.answer_indexes.items
    c.make_room.new.answer_indexes.items _ _ _ _ _ _ _ c.self.invariant e.lines
    (ap (λ ss. record { total = c.self.inside.longest_log_len; segments = ss }) e.segments)
    (roomier-length c.self.inside.answer_indexes.items c.make_room.new.answer_indexes.items e.answer_indexes)
    (told_roomier c.self.inside.lines.items c.self.inside.reserved (c.self.inside.reserved + 1)
    c.self.inside.answer_indexes.items c.make_room.new.answer_indexes.items e.answer_indexes c.self.invariant.tells e.told_room)
    (omega (arith, e.lines_room, lines, c.make_room.new.lines.ok.0)) (omega (arith, e.segments_room, segments, c.make_room.new.segments.ok.0))
    (omega (arith, c.self.invariant.limit, c.places.ensures, c.if-places-eq-PLACES.false, seen))
