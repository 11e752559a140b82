use Rattle.std.proofs.Common.{inr}
use Rattle.ring_console.proofs.PrintedLines.{cut_before}
use Rattle.ring_console.proofs.script_run.ScriptRun.print_script.Goals as goal

pub returns-in-Err-clause-cut : goal.returns-in-Err-clause-cut
returns-in-Err-clause-cut g c =
    inr (cut_before g.O.Object.sequential c.args.script.nodes c.args.is_checked c.args.script.lines.items _)
