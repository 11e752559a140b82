use Rattle.std.proofs.Common.{sym, ◌∙◌}
use Rattle.ring_srp_state.proofs.QueueTaken.{counted-nil, counted-other, counted-long, counted-more}
use Rattle.ring_srp_state.proofs.packing.first_run_length.Goals as goal

pub returns-in_default : goal.returns-in_default
returns-in_default g c = counted-nil c.args.queue.now.items c.loop-count.count c.loop-count.left c.in_default.ensures.item.3 c.loop-count.invariant

pub returns-in_default-packed_call_size : goal.returns-in_default-packed_call_size
returns-in_default-packed_call_size g c =
    let item = c.in-Some.ensures.item in
    counted-other c.args.queue.now.items c.loop-count.count c.loop-count.left c.in-Some.payload.now item.3.0 item.1
    (sym c.packed_call_size.ensures ∙ c.in_default-packed_call_size.is) c.loop-count.invariant

pub returns-then-bytes-left : goal.returns-then-bytes-left
returns-then-bytes-left g c =
    let item = c.in-Some.ensures.item in
    counted-long c.args.queue.now.items c.loop-count.count c.loop-count.left c.in-Some.payload.now
    c.in-Some-packed_call_size.bytes item.3.0 item.1 (sym c.packed_call_size.ensures ∙ c.in-Some-packed_call_size.is)
    c.if-bytes-left.true c.loop-count.invariant

pub loop-count-preserved : goal.loop-count-preserved
loop-count-preserved g c =
    let item = c.in-Some.ensures.item in
    counted-more c.args.queue.now.items c.loop-count.count c.loop-count.left c.in-Some.payload.now
    c.in-Some-packed_call_size.bytes c.loop-count-test.true item.3.0 item.1 (sym c.packed_call_size.ensures ∙ c.in-Some-packed_call_size.is)
    c.if-bytes-left.false c.loop-count.invariant
