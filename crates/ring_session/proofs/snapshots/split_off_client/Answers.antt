use Rattle.std.proofs.Common.{sym}
use Rattle.ring_session.proofs.Parts.{reply_short, next-no_client, next-no_number, next-zero, next-no_operation, next-no_reply, next-below, next-there}
use Rattle.ring_session.proofs.snapshots.split_off_client.Goals as goal

pub invariant_of-client_entry : goal.invariant_of-client_entry
invariant_of-client_entry c = reply_short c.in_ok-operation.rest.now (c.in_ok-reply.reply.now, c.in_ok-reply.rest.now) (sym c.in_ok-reply.ensures)

pub returns-in_err-client : goal.returns-in_err-client
returns-in_err-client c = rw c.from_residual.ensures (sym (next-no_client c.args.low c.args.bytes.now (sym c.in_err-client.ensures.value)))

pub returns-in_err-number : goal.returns-in_err-number
returns-in_err-number c =
    rw c.from_residual-in_err-number.ensures (sym (next-no_number c.args.low c.args.bytes.now c.in_ok-client.client c.in_ok-client.rest.now
    (sym c.in_ok-client.ensures.value) (sym c.in_err-number.ensures.value)))

pub returns-then-number-lt1 : goal.returns-then-number-lt1
returns-then-number-lt1 c =
    sym (next-zero c.args.low c.args.bytes.now c.in_ok-client.client c.in_ok-client.rest.now c.in_ok-number.number c.in_ok-number.rest.now
    (sym c.in_ok-client.ensures.value) (sym c.in_ok-number.ensures.value) c.if-number-lt1.true)

pub returns-in_err-operation : goal.returns-in_err-operation
returns-in_err-operation c =
    rw c.from_residual-in_err-operation.ensures (sym (next-no_operation c.args.low c.args.bytes.now c.in_ok-client.client
    c.in_ok-client.rest.now c.in_ok-number.number c.in_ok-number.rest.now (sym c.in_ok-client.ensures.value)
    (sym c.in_ok-number.ensures.value) c.if-number-lt1.false (sym c.in_err-operation.ensures)))

pub returns-in_err-reply : goal.returns-in_err-reply
returns-in_err-reply c =
    rw c.from_residual-in_err-reply.ensures (sym (next-no_reply c.args.low c.args.bytes.now c.in_ok-client.client
    c.in_ok-client.rest.now c.in_ok-number.number c.in_ok-number.rest.now c.in_ok-operation.operation.now c.in_ok-operation.rest.now
    (sym c.in_ok-client.ensures.value) (sym c.in_ok-number.ensures.value) c.if-number-lt1.false
    (sym c.in_ok-operation.ensures) (sym c.in_err-reply.ensures)))

pub returns-then-client-low : goal.returns-then-client-low
returns-then-client-low c =
    sym (next-below c.args.low c.args.bytes.now c.in_ok-client.client c.in_ok-client.rest.now c.in_ok-number.number
    c.in_ok-number.rest.now c.in_ok-operation.operation.now c.in_ok-operation.rest.now c.in_ok-reply.reply.now c.in_ok-reply.rest.now
    (sym c.in_ok-client.ensures.value) (sym c.in_ok-number.ensures.value) c.if-number-lt1.false
    (sym c.in_ok-operation.ensures) (sym c.in_ok-reply.ensures) c.if-client-low.true)

pub returns : goal.returns
returns c =
    sym (next-there c.args.low c.args.bytes.now c.in_ok-client.client c.in_ok-client.rest.now c.in_ok-number.number
    c.in_ok-number.rest.now c.in_ok-operation.operation.now c.in_ok-operation.rest.now c.in_ok-reply.reply.now c.in_ok-reply.rest.now
    (sym c.in_ok-client.ensures.value) (sym c.in_ok-number.ensures.value) c.if-number-lt1.false
    (sym c.in_ok-operation.ensures) (sym c.in_ok-reply.ensures) c.if-client-low.false)
