-- The positions from the last one handled on are chained.
use Rattle.ring_session.specs.Buckets.{AreChained}
use Rattle.ring_session.proofs.buckets.Buckets.of_tickets.Given as goal

abbrev pub invariant-loop-place : goal.invariant-loop-place
invariant-loop-place g l = AreChained l.buckets.first l.buckets.next l.place l.pending
