use Rattle.std.proofs.Common.{None, Some}
use Rattle.ring_session.proofs.Adding.{effects-same}
use Rattle.ring_base.proofs.ListPlaces.{item_copied}
use Rattle.ring_book_lines.proofs.orders.add_segment.Goals as goal

pub returns-in-Some-clause-ok : goal.returns-in-Some-clause-ok
returns-in-Some-clause-ok g c = λ before h.
    let at = item_copied c.args.lines.now c.args.segment.now.line (Some c.in-Some.line) c.in-Some.ensures.lookup in
    rw (← at) (rw c.committed.ensures at (c.add_from.ensures.ok before h))

pub returns-in-None-clause-ok : goal.returns-in-None-clause-ok
returns-in-None-clause-ok g c = λ before h.
    let at = item_copied c.args.lines.now c.args.segment.now.line None c.in-None.ensures.lookup in
    rw (← at) (effects-same h)
