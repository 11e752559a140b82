use Rattle.std.proofs.Common.{ℕ, List, Ok, subst}
use Rattle.ring_script.specs.Scripts.{IsScriptOfInputBy}
use Rattle.ring_trace.proofs.trace_command.trace_text.Goals as goal

pub returns : goal.returns
returns g c =
    let read = c.in_ok-script.ensures.read in (
      c.in_ok-script.script,
      subst (λ (bytes : List ℕ). IsScriptOfInputBy g.V.Vocabulary.forms (Ok c.in_ok-script.script) bytes) read.1 read.2,
      c.in_ok-trace_script.ensures,
    )
