use Rattle.ring_console.specs.Running.{HasPrinted, AreLinesDone}
use Rattle.ring_console.proofs.script_run.ScriptRun.run_and_print_lines.Given as goal

-- The lines so far are carried out and printed.
abbrev pub invariant-loop-numbered : goal.invariant-loop-numbered
invariant-loop-numbered g l =
    HasPrinted (g.W.Write.contents l.initial.out) (g.W.Write.contents l.out) (λ text. AreLinesDone g.O.Object.sequential l.yielded l.initial.self l.self text)
