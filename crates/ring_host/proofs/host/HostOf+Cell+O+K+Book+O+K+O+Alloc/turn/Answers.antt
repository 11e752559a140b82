use Rattle.ring_host.proofs.TasksDone.{is_counted_so}
use Rattle.ring_host.proofs.host.HostOf+Cell+O+K+Book+O+K+O+Alloc.turn.Goals as goal

pub returns-clause-clock : goal.returns-clause-clock
returns-clause-clock g c =
    rw c.turn_report.ensures.length (is_counted_so g.row.O-Alloc.Denot g.O.Object.sequential g.K.BookName.name.group c.in_ok-done.done c.args.seat.now.clock
    c.gated_turn.new.seat.clock c.in_ok-done.ensures.clock)

pub returns-clause-step : goal.returns-clause-step
returns-clause-step g c = (c.in_ok-done.done, c.turn_report.ensures.length, c.in_ok-done.ensures.clock)
