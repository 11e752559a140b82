use Rattle.std.proofs.Common.{ap, ◌∙◌, Option, Result, Ok, IfSome, refl, subst}
use Rattle.ring_base.specs.declared.fault.Fault.{Fault}
use Rattle.ring_host.proofs.TasksDone.{task_due, none_was_due}
use Rattle.ring_host.specs.Tasks.{TaskFits}
use Rattle.ring_host.specs.declared.inbox_frame_and_task.Task.{Task}
use Rattle.ring_host.proofs.gated_turn.HostOf+Cell+O+K+Book+O+K+O+Alloc.turn_at.Goals as goal

pub returns-in_ok-done-in-Some-clause-clock : goal.returns-in_ok-done-in-Some-clause-clock
returns-in_ok-done-in-Some-clause-clock g c =
    let task_kind : Option (Task g.row.O-Alloc.Denot) → Result (Option (Task g.row.O-Alloc.Denot)) Fault = λ x. Ok x in
    record {
      place = c.take_task.new.place;
      task = c.in-Some.task;
      fits = subst (λ (x : Option (Task g.row.O-Alloc.Denot)). IfSome x (TaskFits c.take_task.new.place)) c.in-Some.is c.in_ok-task.ensures.fits;
      timeout = task_due c.args.due c.take_task.result c.in-Some.task (c.in_ok-task.was ∙ ap task_kind c.in-Some.is) c.take_task.ensures.due c.take_task.ensures.item;
      did = c.in_ok-done-in-Some.ensures.done;
      noted = c.in_ok-done-in-Some.ensures.clock;
    }

pub returns-in-None-clause-clock : goal.returns-in-None-clause-clock
returns-in-None-clause-clock g c =
    let task_kind : Option (Task g.row.O-Alloc.Denot) → Result (Option (Task g.row.O-Alloc.Denot)) Fault = λ x. Ok x in
    (none_was_due c.args.due c.take_task.result (c.in_ok-task.was ∙ ap task_kind c.in-None.is) c.take_task.ensures.due, refl)
