-- Definitions of sessions and their tickets, re-exported to the node.
pub use Rattle.ring_session.specs.TicketsState.{pending_from}
pub use Rattle.ring_session.specs.declared.ticket_answer.TicketAnswer.{TicketAnswer}
pub use Rattle.ring_session.specs.Tickets.{unanswered_tickets}
