use Rattle.ring_sweep.proofs.Inserted.{then_text}
use Rattle.ring_sweep.proofs.variant_script.print_before.Goals as goal

pub returns-clause-printed : goal.returns-clause-printed
returns-clause-printed g c =
    then_text c.print_text.result _ _ _ _ _ c.in_ok-print_injected.ensures.printed c.print_text.ensures.printed
