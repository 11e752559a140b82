use Rattle.std.proofs.Common.{◌≡◌, ◌≤◌, ◌+◌, ◌-◌, ◌^◌, min}
use Rattle.ring_session.specs.TicketEffects.{numbers_in}
use Rattle.ring_session.proofs.sessions.sum_of_numbers.Given as goal

-- The sum so far, and the rest.
abbrev pub invariant-loop-last : goal.invariant-loop-last
invariant-loop-last g l = record {
  whole : min (2 ^ 64 - 1) (l.sum + numbers_in l.last-iterator) ≡ min (2 ^ 64 - 1) (numbers_in l.sessions.entries);
  few : l.sum ≤ 2 ^ 64 - 1;
}
