-- The issue that was entered is the last step of a run, and the ticket counts the calls before it.
use Rattle.ring_host.proofs.EndsOfRuns.{submitted_so}
use Rattle.ring_host.proofs.locked_node.submit_at.Goals as goal

pub returns-clause-submitted : goal.returns-clause-submitted
returns-clause-submitted g c =
    submitted_so g.O.Object.sequential g.K.BookName.name.group c.args.cell.now c.submit_call.new.cell c.args.book.now.lines c.submit_call.new.book.lines
    c.args.call c.args.node c.in_ok-ticket.ticket c.in_ok-ticket.ensures.entered c.run_law.ensures.run c.cell_follows_book_law.ensures.member
    c.cell_follows_book_law.ensures.node c.in_ok-check_processor.ensures.ok c.in_ok-ticket.ensures.ticket
