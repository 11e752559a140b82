use Rattle.std.proofs.Common.{◌<◌, arith}
use Rattle.ring_sweep.proofs.TextLines.{at_begin, step_past, found_here, found_none}
use Rattle.ring_sweep.proofs.variant_script.line_begin.Goals as goal

pub loop-index-init : goal.loop-index-init
loop-index-init c = at_begin c.args.text.now c.args.number

pub returns-then-line-number-clause-begin : goal.returns-then-line-number-clause-begin
returns-then-line-number-clause-begin c =
    found_here c.args.text.now c.args.number c.loop-index.index c.loop-index.line c.if-line-number.true c.loop-index.invariant

pub loop-index-preserved : goal.loop-index-preserved
loop-index-preserved c =
    let line = c.loop-index.line in
    let before : line < c.args.number = omega (arith, c.if-line-number.false) in
    step_past c.args.text.now c.args.number c.loop-index.index line c.line_behind-line.result c.loop-index-test.true before
    (c.line_behind-line.ensures (omega (arith, before))) c.loop-index.invariant

pub returns-clause-begin : goal.returns-clause-begin
returns-clause-begin c =
    found_none c.args.text.now c.args.number c.loop-index.index c.loop-index.line
    (omega (arith, c.loop-index-test.false, c.loop-index.auto.index-end)) c.loop-index.invariant
