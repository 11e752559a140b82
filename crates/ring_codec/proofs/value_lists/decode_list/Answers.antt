use Rattle.std.proofs.lemmas.Result.{err_from_is_err_and}
use Rattle.ring_codec.specs.Reading.{repeated_at}
use Rattle.ring_codec.proofs.Loops.{goes_on, ends, is_done}
use Rattle.ring_codec.proofs.value_lists.decode_list.Goals as goal

pub returns-in_err-item : goal.returns-in_err-item
returns-in_err-item g c =
    let p = err_from_is_err_and c.from_residual-in_err-item.result c.from_residual-in_err-item.ensures.1 in
    rw (p.1, p.2) (ends g.T.Encode.decoding_at_front c.in_err-item.field-0.0 c.loop.items.items c.args.count c.loop.counter
    c.loop.from (repeated_at c.args.count g.T.Encode.decoding_at_front c.args.from.now) c.loop-test.true c.in_err-item.ensures
    c.loop.invariant)

pub loop-preserved : goal.loop-preserved
loop-preserved g c =
    rw c.in_ok-push.ensures.items (goes_on g.T.Encode.decoding_at_front c.loop.items.items c.args.count c.loop.counter c.loop.from
    c.in_ok-item.item c.read.new.from (repeated_at c.args.count g.T.Encode.decoding_at_front c.args.from.now)
    c.loop-test.true c.in_ok-item.ensures c.loop.invariant)

pub returns : goal.returns
returns g c = is_done g.T.Encode.decoding_at_front c.loop.items.items c.args.count c.loop.counter c.loop.from
    (repeated_at c.args.count g.T.Encode.decoding_at_front c.args.from.now) c.loop-test.false c.loop.invariant
