use Rattle.ring_sweep.proofs.Inserted.{pump_split}
use Rattle.ring_sweep.proofs.variant_script.print_split_pump.Goals as goal

pub returns-clause-printed : goal.returns-clause-printed
returns-clause-printed g c =
    pump_split c.print_text.result _ _ _ _ _ c.args.text.now _ c.args.turns c.args.taken c.saturating_sub.result c.line_begin.result
    c.saturating_sub.ensures c.line_begin.ensures.begin c.in_ok-print_pump.ensures.printed c.in_ok-print_injected.ensures.printed
    c.in_ok-print_pump-2.ensures.printed c.print_text.ensures.printed
