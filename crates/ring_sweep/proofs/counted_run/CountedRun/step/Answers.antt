use Rattle.std.proofs.Common.{◌∙◌}
use Rattle.ring_sweep.proofs.Walking.{step_ok}
use Rattle.ring_sweep.proofs.counted_run.CountedRun.step.Goals as goal

pub returns-clause-ok : goal.returns-clause-ok
returns-clause-ok g c =
    let old = c.args.self.now in
    let counted = c.count_if_event.new.self in
    let new = c.perform.new.self in
    step_ok g.O.Object.sequential c.perform.result c.args.line.now c.is_event-is_event.result old.events_done new.events_done old.run counted.run new.run
    c.is_event-is_event.ensures (c.perform.ensures.done ∙ c.in_ok-count_if_event.ensures.ok) c.count_if_event.ensures.run c.perform.ensures.ok
