use Rattle.std.proofs.Common.{sym, arith}
use Rattle.ring_session.proofs.Parts.{parts-no_count, parts-many, parts-no_clients, parts-no_length, parts-no_object, parts-more, parts-there}
use Rattle.ring_session.proofs.snapshots.split_sessions_snapshot.Goals as goal

pub returns-in_err-count : goal.returns-in_err-count
returns-in_err-count c = rw c.from_residual.ensures (parts-no_count c.args.bytes.now (sym c.in_err-count.ensures.value))

pub returns-then-count : goal.returns-then-count
returns-then-count c =
    let n = c.in_ok-count in
    parts-many c.args.bytes.now n.count n.clients.now (sym n.ensures.value) (omega (arith, c.if-count.true))

pub returns-in_err-rest : goal.returns-in_err-rest
returns-in_err-rest c =
    let n = c.in_ok-count in
    rw c.from_residual-in_err-rest.ensures (parts-no_clients c.args.bytes.now n.count n.clients.now (sym n.ensures.value)
    (omega (arith, c.if-count.false)) (sym c.in_err-rest.ensures))

pub returns-in_err-len : goal.returns-in_err-len
returns-in_err-len c =
    let n = c.in_ok-count in
    rw c.from_residual-in_err-len.ensures (parts-no_length c.args.bytes.now n.count n.clients.now c.in_ok-rest.rest.now (sym n.ensures.value)
    (omega (arith, c.if-count.false)) (sym c.in_ok-rest.ensures) (sym c.in_err-len.ensures.value))

pub returns-in_err-object : goal.returns-in_err-object
returns-in_err-object c =
    let n = c.in_ok-count in
    rw c.from_residual-in_err-object.ensures (parts-no_object c.args.bytes.now n.count n.clients.now c.in_ok-rest.rest.now
    c.in_ok-len.len c.in_ok-len.rest.now (sym n.ensures.value) (omega (arith, c.if-count.false)) (sym c.in_ok-rest.ensures)
    (sym c.in_ok-len.ensures.value) (sym c.in_err-object.ensures))

pub returns-then-not-is_empty : goal.returns-then-not-is_empty
returns-then-not-is_empty c =
    let n = c.in_ok-count in
    parts-more c.args.bytes.now n.count n.clients.now c.in_ok-rest.rest.now c.in_ok-len.len c.in_ok-len.rest.now
    c.in_ok-object.object.now c.in_ok-object.rest.now (sym n.ensures.value) (omega (arith, c.if-count.false))
    (sym c.in_ok-rest.ensures) (sym c.in_ok-len.ensures.value) (sym c.in_ok-object.ensures) (sym c.if-not-is_empty.ensures)

pub returns : goal.returns
returns c =
    let n = c.in_ok-count in
    parts-there c.args.bytes.now n.count n.clients.now c.in_ok-rest.rest.now c.in_ok-len.len c.in_ok-len.rest.now
    c.in_ok-object.object.now c.in_ok-object.rest.now (sym n.ensures.value) (omega (arith, c.if-count.false))
    (sym c.in_ok-rest.ensures) (sym c.in_ok-len.ensures.value) (sym c.in_ok-object.ensures) (sym c.if-not-is_empty.ensures)
