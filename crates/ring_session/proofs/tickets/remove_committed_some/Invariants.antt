-- The kept tickets so far are at the front, the others where they were.
use Rattle.std.proofs.Common.{◌≡◌, not}
use Rattle.std.specs.Vec.{vec_capacity}
use Rattle.std.proofs.lemmas.List.Filters.{FiltersInPlace}
use Rattle.ring_session.specs.declared.pending_ticket.PendingTicket.{PendingTicket}
use Rattle.ring_session.specs.TicketsState.{contains_call}
use Rattle.ring_session.proofs.tickets.remove_committed_some.Given as goal

abbrev pub invariant-loop-place : goal.invariant-loop-place
invariant-loop-place g l = record {
  filtered : FiltersInPlace (λ (p : PendingTicket g.row.A.Denot). not (contains_call l.committed p.call)) l.fn.pending.items l.pending.items l.kept l.place;
  capacity : vec_capacity l.pending ≡ vec_capacity l.fn.pending;
}
