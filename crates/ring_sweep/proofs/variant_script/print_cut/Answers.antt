use Rattle.ring_sweep.proofs.Inserted.{cut_printed}
use Rattle.ring_sweep.proofs.variant_script.print_cut.Goals as goal

pub returns-clause-printed : goal.returns-clause-printed
returns-clause-printed g c =
    cut_printed c.print_bytes-3.result _ _ _ _ _ _ c.args.node _ c.in_ok-print_bytes.ensures.printed c.in_ok-print_node.ensures.printed
    c.in_ok-print_bytes-2.ensures.printed c.in_ok-print_other_nodes.ensures.printed c.print_bytes-3.ensures.printed
