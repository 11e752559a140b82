use Rattle.std.proofs.Common.{inl, inr}
use Rattle.ring_console.proofs.NotRead.{no_script_read}
use Rattle.ring_sweep.proofs.Trying.{all_legal, not_all_legal}
use Rattle.ring_sweep.proofs.sweeping.sweep_of_by_threads.Goals as goal

pub returns-clause-printed : goal.returns-clause-printed
returns-clause-printed g c = λ zero_is. (
  c.in-Ok.script,
  c.in-Ok.ensures.read.0,
  c.in-Ok.ensures.read.1,
  c.in-Ok.ensures.read.2,
  all_legal _ _ _ c.print_all-done.result _ _ (c.verdict_status.ensures.ok.0 zero_is) c.print_all-done.ensures.swept
      c.print_all-done.ensures.printed,
)

pub returns-clause-no_script : goal.returns-clause-no_script
returns-clause-no_script g c = λ bytes known none.
    absurd (no_script_read g.V.Vocabulary.forms c.in-Ok.script (g.I.Read.remaining c.args.input.now) c.in-Ok.ensures.read.0 bytes
    c.in-Ok.ensures.read.1 c.in-Ok.ensures.read.2 known none)

pub returns-clause-kept : goal.returns-clause-kept
returns-clause-kept g c = λ one_is.
    elim (not_all_legal _ _ _ c.print_all-done.result _ _ c.verdict_status.ensures.output c.print_all-done.ensures.failed c.verdict_status.ensures.ok
    c.print_all-done.ensures.swept c.print_all-done.ensures.printed one_is) [
      | inl quiet ↦ inl quiet
      | inr told ↦ inr (elim told [
        | inl same ↦ inl same
        | inr printed ↦ inr (c.in-Ok.script, c.in-Ok.ensures.read.0, c.in-Ok.ensures.read.1, c.in-Ok.ensures.read.2, printed)
      ])
    ]
