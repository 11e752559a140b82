-- The answers so far, and those of the tickets to come.
use Rattle.std.proofs.Common.{◌≡◌, ◌++◌, drop}
use Rattle.ring_session.specs.TicketsState.{answers_to}
use Rattle.ring_session.proofs.tickets.append_unbucketed_answers.Given as goal

abbrev pub invariant-loop-pending_ticket : goal.invariant-loop-pending_ticket
invariant-loop-pending_ticket g l =
    l.fn.answers.items ++ answers_to l.before l.call l.answer l.pending ≡ l.answers.items ++ answers_to l.before l.call l.answer (drop l.pending_ticket-index l.pending)
