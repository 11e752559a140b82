use Rattle.std.proofs.Common.{◌∙◌, sym}
use Rattle.ring_sweep.proofs.Gapping.{step_taken, step_next}
use Rattle.ring_sweep.proofs.counted_run.CountedRun.step_until.Goals as goal

pub returns-then-is_event_due-clause-ok : goal.returns-then-is_event_due-clause-ok
returns-then-is_event_due-clause-ok g c =
    step_next g.O.Object.sequential c.args.line.now c.args.before c.args.self.now.events_done c.args.self.now.run (sym c.is_event_due.ensures ∙ c.if-is_event_due.true)

pub returns-clause-ok : goal.returns-clause-ok
returns-clause-ok g c =
    let old = c.args.self.now in
    let new = c.step.new.self in
    step_taken g.O.Object.sequential c.args.line.now c.args.before old.events_done new.events_done old.run new.run c.in_ok-step.ensures.ok
    (sym c.is_event_due.ensures ∙ c.if-is_event_due.false)
