-- The calls done so far, and the calls to come.
use Rattle.std.proofs.Common.{◌≡◌, ◌+◌, ◌≤◌, drop, fold}
use Rattle.ring_session.specs.Table.{table_next}
use Rattle.ring_session.specs.TicketEffects.{done_after}
use Rattle.ring_session.proofs.tickets.apply_and_count_effects.Given as goal

abbrev pub invariant-loop-call : goal.invariant-loop-call
invariant-loop-call g l = record {
  few : l.effects ≤ l.call-index;
  effects : done_after g.O.Object.sequential l.fn.sessions l.committed ≡ l.effects + done_after g.O.Object.sequential l.sessions (drop l.call-index l.committed);
  table : fold (table_next g.O.Object.sequential) l.fn.sessions l.committed ≡ fold (table_next g.O.Object.sequential) l.sessions (drop l.call-index l.committed);
}
