-- The run with the injection before its event, and all steps after it.
use Rattle.std.proofs.Common.{ℕ, List, subst, ◌∙◌}
use Rattle.ring_base.proofs.Results.{on-ok}
use Rattle.ring_console.specs.Running.{RunView, run_opening, IsLineDone}
use Rattle.ring_script.specs.declared.scripts.NumberedLine.{NumberedLine}
use Rattle.ring_sweep.specs.ScriptPositions.{left_of}
use Rattle.ring_sweep.specs.Variants.{steps_of, line_of_injection, AreStepsDone, IsVariant}
use Rattle.ring_sweep.proofs.Gapping.{is_variant}
use Rattle.ring_sweep.proofs.base_run.BaseRun.run_variant.Goals as goal

pub returns-clause-ok : goal.returns-clause-ok
returns-clause-ok g c =
    let object = g.O.Object.sequential in
    let script = c.args.script.now in
    let lines = script.lines.items in
    let here = c.args.self.now in
    let injected = c.carry_out_injection.new.self in
    let new = c.finish.new.copy in
    let injects = subst (λ (r : RunView g.row.O-Alloc.Denot). IsLineDone object (line_of_injection c.args.injection) r injected.run) c.requires.copy.0
    c.in_ok-carry_out_injection.ensures.ok in
    on-ok c.finish.result (AreStepsDone object (left_of c.as_slice.result.now here.lines here.turns) injected.events_done new.events_done injected.run new.run)
    (IsVariant object (steps_of lines) c.args.injection 0 (run_opening script.nodes) new.run) (λ done.
    let behind = subst (λ (xs : List (NumberedLine g.row.O-Alloc.Denot)). AreStepsDone object (left_of xs here.lines here.turns) injected.events_done new.events_done injected.run new.run)
    c.as_slice.ensures.value done in
    is_variant object script.nodes lines c.args.injection here.lines here.turns here.counted_run.events_done new.events_done here.counted_run.run injected.run new.run
    c.requires.come c.requires.due injects
    (subst (λ (n : ℕ). AreStepsDone object (left_of lines here.lines here.turns) n new.events_done injected.run new.run)
    (c.in_ok-carry_out_injection.ensures.done ∙ c.requires.copy.1) behind)) c.finish.ensures.ok
