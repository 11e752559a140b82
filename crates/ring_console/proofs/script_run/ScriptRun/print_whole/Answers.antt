use Rattle.ring_base.proofs.Results.{value_at_err}
use Rattle.ring_console.proofs.PrintedLines.{whole_text, cut_in_line, cut_in_check}
use Rattle.ring_console.proofs.script_run.ScriptRun.print_whole.Goals as goal

pub returns-clause-ok : goal.returns-clause-ok
returns-clause-ok g c =
    whole_text _ c.args.script.nodes c.args.is_checked c.args.script.lines.items c.print_verdict.result _ _ _ c.args.self.now
    c.run_and_print_lines.new.self c.requires.opening c.in_ok-run_and_print_lines.ensures.ends c.print_verdict.ensures.line c.print_verdict.ensures.verdict

pub returns-clause-cut : goal.returns-clause-cut
returns-clause-cut g c =
    cut_in_check _ c.args.script.nodes c.args.is_checked c.args.script.lines.items c.print_verdict.result _ _ _ c.args.self.now
    c.run_and_print_lines.new.self c.requires.opening c.in_ok-run_and_print_lines.ensures.ends c.print_verdict.ensures.cut

pub returns-in_err-run_and_print_lines-clause-cut : goal.returns-in_err-run_and_print_lines-clause-cut
returns-in_err-run_and_print_lines-clause-cut g c =
    let failure = c.in_err-run_and_print_lines.field-0.0 in
    value_at_err c.from_residual.result failure _ c.from_residual.ensures.1
    (cut_in_line g.O.Object.sequential c.args.script.nodes c.args.is_checked c.args.script.lines.items failure _ _ c.args.self.now
    c.run_and_print_lines.new.self c.requires.opening c.in_err-run_and_print_lines.ensures.ends)
