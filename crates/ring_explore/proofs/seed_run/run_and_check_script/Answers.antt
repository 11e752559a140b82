use Rattle.std.proofs.Common.{subst}
use Rattle.std.specs.declared.alloc.Global.{Global}
use Rattle.ring_console.specs.Running.{RunView, AreLinesDone}
use Rattle.ring_explore.proofs.TriedScripts.{found_tried}
use Rattle.ring_explore.proofs.seed_run.run_and_check_script.Goals as goal

pub returns-clause-ok : goal.returns-clause-ok
returns-clause-ok g c =
    let done = c.in_ok-run_script_lines.ensures.ok in
    found_tried g.O.Object.sequential g.V.Vocabulary.forms c.args.script c.args.seed c.run_script_lines.new.self.run done.0 c.seed_totals.result
    (subst (λ (r : RunView Global). AreLinesDone g.O.Object.sequential c.args.script.lines.items r c.run_script_lines.new.self.run done.0) c.requires.opening done.1)
    c.seed_totals.ensures.legal
