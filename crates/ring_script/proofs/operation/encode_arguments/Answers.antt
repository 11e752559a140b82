use Rattle.std.proofs.Common.{sym, ◌∙◌, arith}
use Rattle.std.proofs.lemmas.Result.{err_from_is_err_and}
use Rattle.ring_script.proofs.Encoding.{arguments_more, arguments_refused, arguments_end}
use Rattle.ring_script.proofs.operation.encode_arguments.Goals as goal

pub loop-argument-preserved : goal.loop-argument-preserved
loop-argument-preserved g c =
    sym (arguments_more c.loop-argument.bytes.items c.args.arguments.now c.loop-argument.argument-index
    c.loop-argument.words _ _ (omega arith) c.in_ok-encode_argument.ensures) ∙ c.loop-argument.invariant

pub returns-in_err-encode_argument : goal.returns-in_err-encode_argument
returns-in_err-encode_argument g c =
    let p = err_from_is_err_and c.from_residual.result c.from_residual.ensures.1 in
    rw (p.1, p.2) (arguments_refused c.in_err-encode_argument.field-0.0 c.loop-argument.bytes.items c.args.arguments.now
    c.loop-argument.argument-index c.loop-argument.words _ _ (omega arith)
    c.in_err-encode_argument.ensures c.loop-argument.invariant)

pub returns : goal.returns
returns g c =
    sym c.loop-argument.invariant ∙ arguments_end c.loop-argument.bytes.items c.args.arguments.now
    c.loop-argument.argument-index c.loop-argument.words (omega arith)
