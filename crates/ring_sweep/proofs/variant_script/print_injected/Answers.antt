use Rattle.ring_sweep.proofs.Inserted.{then_text}
use Rattle.ring_sweep.proofs.variant_script.print_injected.Goals as goal

pub returns-clause-printed : goal.returns-clause-printed
returns-clause-printed g c =
    then_text c.print_injection.result _ _ _ _ _ c.in_ok-print_comment.ensures.printed c.print_injection.ensures.printed
