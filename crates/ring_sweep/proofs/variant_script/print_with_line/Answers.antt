use Rattle.std.proofs.Common.{Some, None}
use Rattle.ring_sweep.proofs.Inserted.{around_line}
use Rattle.ring_sweep.proofs.variant_script.print_with_line.Goals as goal

pub returns-in-Some-clause-printed : goal.returns-in-Some-clause-printed
returns-in-Some-clause-printed g c =
    around_line c.print_split_pump.result _ _ _ c.args.text.now _ c.args.next.now.number c.line_begin-begin.result c.args.taken _ c.split_turns.result
    (Some c.in-Some.turns) c.line_begin-begin.ensures.begin c.split_turns.ensures c.in-Some.is c.in_ok-print_bytes.ensures.printed
    c.print_split_pump.ensures.printed

pub returns-in-None-clause-printed : goal.returns-in-None-clause-printed
returns-in-None-clause-printed g c =
    around_line c.print_before.result _ _ _ c.args.text.now _ c.args.next.now.number c.line_begin-begin.result c.args.taken _ c.split_turns.result
    None c.line_begin-begin.ensures.begin c.split_turns.ensures c.in-None.is c.in_ok-print_bytes.ensures.printed
    c.print_before.ensures.printed
