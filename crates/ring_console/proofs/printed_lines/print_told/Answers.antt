use Rattle.std.proofs.Common.{◌≡◌, ◌<◌, Some, slice_get, length, refl, arith}
use Rattle.std.proofs.lemmas.Option.{slice_get_read}
use Rattle.ring_console.proofs.PrintedLines.{told_more}
use Rattle.ring_console.proofs.printed_lines.print_told.Goals as goal

pub loop-one-preserved : goal.loop-one-preserved
loop-one-preserved g c =
    let told = c.args.told.now in
    let k = c.loop-one.one-index in
    let within : k < length told = omega (arith, c.loop-one-test.true) in
    let at : slice_get told k ≡ Some c.one-item.result = slice_get_read told (length told) k c.one-item.result refl within c.one-item.is in
    told_more (g.W.Write.contents c.args.out.now) (g.W.Write.contents c.loop-one.out)
    (g.W.Write.contents c.print_report.new.out) told k c.one-item.result at c.loop-one.invariant
    c.in_ok-print_report.ensures.line
