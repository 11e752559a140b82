use Rattle.std.proofs.Common.{arith}
use Rattle.std.proofs.lemmas.Result.{err_from_is_err_and}
use Rattle.ring_codec.specs.EncodedPrefixes.{is_encoded_prefix, encoded_prefix_is_read, only_memory_refuses_reading, only_encoded_prefix_is_read}
use Rattle.ring_codec.proofs.wire.AnyWire.get.Goals as goal

pub overflow_sub-len : goal.overflow_sub-len
overflow_sub-len g c =
    let r = is_encoded_prefix g.met.T.Encode.decoding_is_exact c.args.src.now c.in_ok-value.value c.read.new.from
    (λ i. omega (arith, c.type_inv.src i)) (rw c.new-from.ensures at c.in_ok-value.ensures) in
    rw c.len.ensures r.0

pub returns-clause-found : goal.returns-clause-found
returns-clause-found g c =
    let r = is_encoded_prefix g.met.T.Encode.decoding_is_exact c.args.src.now c.in_ok-value.value c.read.new.from
    (λ i. omega (arith, c.type_inv.src i)) (rw c.new-from.ensures at c.in_ok-value.ensures) in
    rw c.len.ensures r.1

pub returns-clause-only : goal.returns-clause-only
returns-clause-only g c = λ v rest f e.
    rw c.len.ensures (only_encoded_prefix_is_read g.met.T.Encode.decoding_is_exact c.args.src.now c.in_ok-value.value c.read.new.from v rest
    (rw c.new-from.ensures at c.in_ok-value.ensures) f e)

pub returns-in_err-value-clause-only : goal.returns-in_err-value-clause-only
returns-in_err-value-clause-only g c =
    let p = err_from_is_err_and c.from_residual.result c.from_residual.ensures.1 in
    rw (p.1, p.2) (λ v rest f e. only_memory_refuses_reading c.in_err-value.field-0.0 (g.T.Encode.decoding_at_front c.args.src.now) (v, rest)
    (encoded_prefix_is_read g.met.T.Encode.decoding_is_exact c.args.src.now v rest f e) (rw c.new-from.ensures at c.in_err-value.ensures))
