-- The result of `enter` on the step that the cell journaled gives the call's line, or the reason why it has none.
use Rattle.ring_book_lines.specs.Machines.{node_machine}
use Rattle.ring_book_lines.specs.declared.input.LineInput.TheVariants.{Submitted}
use Rattle.ring_host.proofs.JournaledSteps.{line_entered, line_refused}
use Rattle.ring_host.proofs.locked_submit.enter_call.Goals as goal

pub returns-in-Ok-clause-entered : goal.returns-in-Ok-clause-entered
returns-in-Ok-clause-entered g c =
    let journaled = c.in_ok-ticket.ensures.given.1 in
    let follows = c.enter.follows in
    line_entered (node_machine g.O.Object.sequential g.K.BookName.name.group) c.args.cell.now c.submit.new.self c.enter.new.cell
    c.args.book.now follows.lender-at-none (Submitted c.args.call) c.enter.result c.in-Ok.field-0 journaled follows.holds-at-none c.in-Ok.is

pub returns-in-Err-clause-why : goal.returns-in-Err-clause-why
returns-in-Err-clause-why g c =
    let journaled = c.in_ok-ticket.ensures.given.1 in
    let follows = c.enter.follows in
    line_refused (node_machine g.O.Object.sequential g.K.BookName.name.group) c.args.cell.now c.submit.new.self c.enter.new.cell
    c.args.book.now follows.lender-at-none c.args.call c.enter.result c.in-Err.fault journaled c.requires.place follows.holds-at-none c.in-Err.is
