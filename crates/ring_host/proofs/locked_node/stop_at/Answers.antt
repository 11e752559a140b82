-- The stop that the cell journaled is the one that was entered, and so the last of a run.
use Rattle.ring_node_spec.specs.declared.input.Input.TheVariants.{Stop}
use Rattle.ring_book.specs.Cells.{HasJournaled, StepRefused}
use Rattle.ring_book.specs.Lines.{Received, node_machine}
use Rattle.ring_book_lines.specs.declared.frame_ref.FrameRef.{FrameRef}
use Rattle.ring_host.proofs.EndsOfRuns.{stopped_so}
use Rattle.ring_host.proofs.TasksDone.{if_value}
use Rattle.ring_host.proofs.locked_node.stop_at.Goals as goal

pub returns-clause-stopped : goal.returns-clause-stopped
returns-clause-stopped g c =
    let object = g.O.Object.sequential in
    let group = g.K.BookName.name.group in
    let m = node_machine object group in
    let at : FrameRef = record { line = 0; place = 0 } in
    let old = c.args.cell.now in
    let mid = c.stop_cell-stopped.new.cell in
    let journaled =
    if_value c.stop_cell-stopped.result (HasJournaled m old mid (Received Stop at)) (StepRefused m old mid Stop at)
    c.in_ok-finish_step.ensures.done c.stop_cell-stopped.ensures.steps in
    stopped_so object group old mid c.finish_step.new.cell c.args.node at _ journaled c.in_ok-finish_step.ensures.ends c.in_ok-check_processor.ensures.ok
