use Rattle.ring_sweep.proofs.Trying.{all_legal, not_all_legal}
use Rattle.ring_sweep.proofs.sweeping.sweep_script.Goals as goal

pub returns-clause-printed : goal.returns-clause-printed
returns-clause-printed g c = λ zero_is.
    all_legal _ _ _ c.print_all-done.result _ _ (c.verdict_status.ensures.ok.0 zero_is) c.print_all-done.ensures.swept c.print_all-done.ensures.printed

pub returns-clause-kept : goal.returns-clause-kept
returns-clause-kept g c = λ one_is.
    not_all_legal _ _ _ c.print_all-done.result _ _ c.verdict_status.ensures.output c.print_all-done.ensures.failed c.verdict_status.ensures.ok
    c.print_all-done.ensures.swept c.print_all-done.ensures.printed one_is
