-- The calls done so far, and the calls to come.
use Rattle.std.proofs.Common.{◌≡◌, ◌+◌, ◌++◌, ◌≤◌, [], take, drop, fold}
use Rattle.ring_session.specs.Buckets.{AreCommitted}
use Rattle.ring_session.specs.Table.{table_next}
use Rattle.ring_session.specs.TicketEffects.{done_after}
use Rattle.ring_session.specs.TicketsState.{answers_after_committed}
use Rattle.ring_session.proofs.tickets.answers_of_pending.Given as goal

abbrev pub invariant-loop-place : goal.invariant-loop-place
invariant-loop-place g l = record {
  few : l.effects ≤ l.place;
  effects : done_after g.O.Object.sequential l.fn.sessions l.committed ≡ l.effects + done_after g.O.Object.sequential l.sessions (drop l.place l.committed);
  table : fold (table_next g.O.Object.sequential) l.fn.sessions l.committed ≡ fold (table_next g.O.Object.sequential) l.sessions (drop l.place l.committed);
  gone : AreCommitted l.committed_flags.committed_marks (take l.place l.committed) l.bucketed;
  answers : answers_after_committed g.O.Object.sequential l.fn.sessions l.pending [] l.committed
      ≡ l.answers.items ++ answers_after_committed g.O.Object.sequential l.sessions l.pending (take l.place l.committed) (drop l.place l.committed);
}
