use Rattle.std.proofs.lemmas.Result.{err_from_is_err_and}
use Rattle.ring_codec.proofs.NumbersInBytes.{length-words, words_got, words_refused}
use Rattle.ring_codec.proofs.encoded_numbers.EncodedNumbers.read.Goals as goal

pub returns-in_err-bytes-clause-read : goal.returns-in_err-bytes-clause-read
returns-in_err-bytes-clause-read c =
    let p = err_from_is_err_and c.from_residual.result c.from_residual.ensures.1 in
    rw (p.1, p.2) (words_refused c.in_err-bytes.field-0.0 c.args.count c.args.from.now c.in_err-bytes.ensures)

pub returns-clause-read : goal.returns-clause-read
returns-clause-read c = words_got c.args.count c.args.from.now c.in_ok-bytes.bytes.now c.take_bytes.new.self c.in_ok-bytes.ensures

pub returns-clause-counted : goal.returns-clause-counted
returns-clause-counted c = length-words c.args.count c.in_ok-bytes.bytes.now
