-- The step that the cell journaled of the task is the one that was entered, and so the last of a run.
use Rattle.ring_book.specs.Cells.{HasJournaled, StepRefused}
use Rattle.ring_book.specs.Lines.{Received, node_machine}
use Rattle.ring_host.proofs.TasksDone.{if_value, done_of_task}
use Rattle.ring_host.specs.Tasks.{input_of, ref_of}
use Rattle.ring_host.proofs.gated_turn.HostOf+Cell+O+K+Book+O+K+O+Alloc.step_locked.Goals as goal

pub returns-clause-done : goal.returns-clause-done
returns-clause-done g c =
    let object = g.O.Object.sequential in
    let group = g.K.BookName.name.group in
    let m = node_machine object group in
    let place = c.args.received.now in
    let task = c.args.task in
    let old = c.args.cell.now in
    let mid = c.step_cell-stepped.new.cell in
    let journaled =
    if_value c.step_cell-stepped.result (HasJournaled m old mid (Received (input_of place task) (ref_of task)))
    (StepRefused m old mid (input_of place task) (ref_of task)) c.in_ok-sent.ensures.done c.step_cell-stepped.ensures.steps in
    done_of_task object group place task old mid c.lock_and_finish_step.new.cell c.task_kind-task_kind.result c.in_ok-sent.sent c.node.result.now c.step_report.result
    journaled c.in_ok-sent.ensures.ends c.node.ensures c.task_kind-task_kind.ensures c.step_report.ensures.task_kind c.step_report.ensures.sent c.step_report.ensures.length
    c.step_report.ensures.activity
