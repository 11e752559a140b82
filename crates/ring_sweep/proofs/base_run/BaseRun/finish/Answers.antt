-- The rest of the next line, and then all lines after it.
use Rattle.std.proofs.Common.{◌+◌, ◌-◌, length, take, drop, Some, None, List, sym, subst, refl}
use Rattle.ring_base.proofs.ListPlaces.{item_copied}
use Rattle.ring_script.specs.declared.line.ScriptLine.{ScriptLine}
use Rattle.ring_sweep.specs.Variants.{AreStepsDone}
use Rattle.ring_sweep.proofs.Gapping.{rest_done, none_left}
use Rattle.ring_sweep.proofs.base_run.BaseRun.finish.Goals as goal

pub returns-in_ok-take_line-in-Some-clause-ok : goal.returns-in_ok-take_line-in-Some-clause-ok
returns-in_ok-take_line-in-Some-clause-ok g c =
    let lines = c.args.lines.now in
    let k = c.args.self.now.lines in
    let old = c.args.copy.now in
    let mid = c.take_line.new.self in
    let new = c.run_lines.new.self in
    rest_done g.O.Object.sequential c.run_lines.result lines (take (length lines - (k + 1)) (drop (k + 1) lines)) k c.args.self.now.turns
    old.events_done mid.events_done new.events_done c.in-Some.next.now old.run mid.run new.run
    (sym (item_copied lines k (Some c.in-Some.next) c.in-Some.ensures.lookup)) refl c.in_ok-take_line-in-Some.ensures.ok c.run_lines.ensures.ok

pub returns-in-None-clause-ok : goal.returns-in-None-clause-ok
returns-in-None-clause-ok g c =
    let lines = c.args.lines.now in
    let k = c.args.self.now.lines in
    let old = c.args.copy.now in
    let none = none_left lines k c.args.self.now.turns (sym (item_copied lines k None c.in-None.ensures.lookup)) in
    subst (λ (ls : List (ScriptLine g.row.O-Alloc.Denot)). AreStepsDone g.O.Object.sequential ls old.events_done old.events_done old.run old.run) (sym none) (refl, refl)
