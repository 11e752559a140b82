use Rattle.std.proofs.Common.{arith}
use Rattle.std.proofs.lemmas.Result.{err_from_is_err_and}
use Rattle.ring_wire.specs.Frames.{frame_format}
use Rattle.ring_wire.specs.Prefixes.{refused_prefix, placed_prefix}
use Rattle.ring_wire.proofs.frame.Frame.decode_first_frame_into.Goals as goal

pub returns-in_err-decode_frame_into-clause-bad : goal.returns-in_err-decode_frame_into-clause-bad
returns-in_err-decode_frame_into-clause-bad g c =
    let p = err_from_is_err_and c.from_residual.result c.from_residual.ensures.1 in
    let refused = rw c.new-from.ensures at c.in_err-decode_frame_into.ensures in
    rw (p.1, p.2) (refused_prefix frame_format c.args.src.now c.in_err-decode_frame_into.field-0.0 refused.1)

pub overflow_sub-result : goal.overflow_sub-result
overflow_sub-result g c =
    let put = rw c.new-from.ensures at c.in_ok-decode_frame_into.ensures in
    let got = placed_prefix frame_format c.args.src.now c.decode_frame_into.new.place c.decode_frame_into.new.from (λ i. omega (arith, c.type_inv.src i)) put.0 put.1 in
    rw c.len.ensures got.0

pub returns-clause-found : goal.returns-clause-found
returns-clause-found g c =
    let put = rw c.new-from.ensures at c.in_ok-decode_frame_into.ensures in
    let got = placed_prefix frame_format c.args.src.now c.decode_frame_into.new.place c.decode_frame_into.new.from (λ i. omega (arith, c.type_inv.src i)) put.0 put.1 in
    rw c.len.ensures got.1
