use Rattle.std.proofs.Common.{◌∙◌, arith}
use Rattle.ring_book.specs.Lines.{node_machine}
use Rattle.ring_host.proofs.Cells.{count_of, at_least, at_most, in_byte}
use Rattle.ring_host.proofs.construction.HostOf+Cell+O+K+Book+O+K+O+Alloc.with_inbox.Goals as goal

pub overflow_cast-count : goal.overflow_cast-count
overflow_cast-count g c =
    let group = g.K.BookName.name.group in
    let e = count_of (node_machine g.O.Object.sequential group) group.count c.in_ok-book.parts.items c.in_ok-book.ensures.ok.1 in
    record { fits = in_byte c.len-count.result group.count (c.len-count.ensures ∙ c.in_ok-book.parts.ok.0 ∙ e) c.in_ok-book.ensures.counted.1 }

pub new-requires : goal.new-requires
new-requires g c =
    let group = g.K.BookName.name.group in
    let e = count_of (node_machine g.O.Object.sequential group) group.count c.in_ok-book.parts.items c.in_ok-book.ensures.ok.1 in
    let same = c.len-count.ensures ∙ c.in_ok-book.parts.ok.0 ∙ e in
    (at_least c.len-count.result group.count same c.in_ok-book.ensures.counted.0, at_most c.len-count.result group.count same c.in_ok-book.ensures.counted.1)

pub returns-clause-count : goal.returns-clause-count
returns-clause-count g c =
    let group = g.K.BookName.name.group in
    let e = count_of (node_machine g.O.Object.sequential group) group.count c.in_ok-book.parts.items c.in_ok-book.ensures.ok.1 in
    omega (arith, e, c.len-count.ensures, c.in_ok-gauge.ensures.count)

pub returns-clause-seats : goal.returns-clause-seats
returns-clause-seats g c =
    let group = g.K.BookName.name.group in
    let e = count_of (node_machine g.O.Object.sequential group) group.count c.in_ok-book.parts.items c.in_ok-book.ensures.ok.1 in
    rw (c.len-count.ensures ∙ c.in_ok-book.parts.ok.0 ∙ e) at c.in_ok-gauge.ensures.seats

pub returns-clause-nodes : goal.returns-clause-nodes
returns-clause-nodes g c =
    let group = g.K.BookName.name.group in
    let e = count_of (node_machine g.O.Object.sequential group) group.count c.in_ok-book.parts.items c.in_ok-book.ensures.ok.1 in
    c.in_ok-gauge.ensures.words ∙ (c.len-count.ensures ∙ c.in_ok-book.parts.ok.0 ∙ e)
