use Rattle.ring_sweep.proofs.Inserted.{then_text}
use Rattle.ring_sweep.proofs.variant_script.print_with_end.Goals as goal

pub returns-clause-printed : goal.returns-clause-printed
returns-clause-printed g c =
    then_text c.print_injected.result _ _ _ _ _ c.in_ok-print_text.ensures.printed c.print_injected.ensures.printed
