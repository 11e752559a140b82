-- The checks hold exactly of an order that explains the history.
use Rattle.std.proofs.Common.{false, refl}
use Rattle.ring_checker.proofs.Checks.{explains-issued, explains-not_issued}
use Rattle.ring_checker.proofs.check.is_linearization_by_places.Goals as goal

pub returns-then-not-are_issued_before : goal.returns-then-not-are_issued_before
returns-then-not-are_issued_before g c =
    explains-not_issued g.O.Object.sequential c.args.order.now c.args.history.now c.note_issues.new.places false
    c.note_issues.ensures (rw c.if-not-are_issued_before.true at c.are_issued_before.ensures) refl

pub returns : goal.returns
returns g c =
    explains-issued g.O.Object.sequential c.args.order.now c.args.history.now c.note_issues.new.places c.are_issued_before.result c.are_replies_right.result
    c.requires.numbered c.note_issues.ensures c.are_issued_before.ensures c.if-not-are_issued_before.false c.are_replies_right.ensures
