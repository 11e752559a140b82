-- A text that is no script is not read as one; one that is read is that text.
use Rattle.std.proofs.Common.{Ok, Some, refl, subst, List, ℕ}
use Rattle.ring_script.specs.Scripts.{IsScriptOfInputBy}
use Rattle.ring_console.proofs.NotRead.{no_script_read}
use Rattle.ring_sweep.proofs.variant_script.print_variant_of.Goals as goal

pub returns-in-Ok-clause-none : goal.returns-in-Ok-clause-none
returns-in-Ok-clause-none g c = λ none.
    absurd (no_script_read g.V.Vocabulary.forms c.in-Ok.script (Some c.args.text.now) c.in-Ok.ensures.read.0 c.args.text.now
    c.in-Ok.ensures.read.1 c.in-Ok.ensures.read.2 refl none)

pub returns-in-Ok-clause-absent : goal.returns-in-Ok-clause-absent
returns-in-Ok-clause-absent g c = λ two_is. (
  c.in-Ok.script,
  subst (λ (bytes : List ℕ). IsScriptOfInputBy g.V.Vocabulary.forms (Ok c.in-Ok.script) bytes) c.in-Ok.ensures.read.1 c.in-Ok.ensures.read.2,
  c.print_variant_in.ensures.absent two_is,
)

pub returns-in-Ok-clause-printed : goal.returns-in-Ok-clause-printed
returns-in-Ok-clause-printed g c = λ zero_is. (
  c.in-Ok.script,
  subst (λ (bytes : List ℕ). IsScriptOfInputBy g.V.Vocabulary.forms (Ok c.in-Ok.script) bytes) c.in-Ok.ensures.read.1 c.in-Ok.ensures.read.2,
  (c.print_variant_in.ensures.printed zero_is).0,
  (c.print_variant_in.ensures.printed zero_is).1,
)
