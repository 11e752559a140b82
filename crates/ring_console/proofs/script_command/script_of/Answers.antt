use Rattle.ring_console.proofs.NotRead.{no_script_read}
use Rattle.ring_console.proofs.PrintedLines.{broken_off}
use Rattle.ring_console.proofs.script_command.script_of.Goals as goal

pub returns-in-Ok-clause-printed : goal.returns-in-Ok-clause-printed
returns-in-Ok-clause-printed g c = λ zero_is. (
  c.in-Ok.script,
  c.in-Ok.ensures.read.0,
  c.in-Ok.ensures.read.1,
  c.in-Ok.ensures.read.2,
  c.print_run.ensures.printed zero_is,
)

pub returns-in-Ok-clause-no_script : goal.returns-in-Ok-clause-no_script
returns-in-Ok-clause-no_script g c = λ bytes known none.
    absurd (no_script_read g.V.Vocabulary.forms c.in-Ok.script (g.R.Read.remaining c.args.input.now) c.in-Ok.ensures.read.0 bytes
    c.in-Ok.ensures.read.1 c.in-Ok.ensures.read.2 known none)

pub returns-in-Ok-clause-cut : goal.returns-in-Ok-clause-cut
returns-in-Ok-clause-cut g c = λ one_is.
    broken_off _ _ _ _ _ _ _ _ c.in-Ok.script c.in-Ok.ensures.read.0 c.in-Ok.ensures.read.1 c.in-Ok.ensures.read.2 (c.print_run.ensures.cut one_is)
