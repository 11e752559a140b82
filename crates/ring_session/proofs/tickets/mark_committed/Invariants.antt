-- The tickets before a position of the call's bucket are done.
use Rattle.std.proofs.Common.{◌-◌, ◌≤◌, List, length}
use Rattle.ring_payload.specs.declared.call.Call.{Call}
use Rattle.ring_session.specs.Buckets.{AreCommitted, AreCommittedTo, IsInBucketOf}
use Rattle.ring_session.proofs.tickets.mark_committed.Given as goal

abbrev pub invariant-loop-place : goal.invariant-loop-place
invariant-loop-place g l = record {
  within : l.place ≤ length l.pending;
  gone : (before : List (Call g.row.A.Denot)) → AreCommitted l.fn.committed_flags.committed_marks before l.pending → AreCommittedTo l.committed_flags.committed_marks before l.call l.place l.pending;
  bucket : IsInBucketOf l.call l.place l.pending;
}

abbrev pub decreases-loop-place : goal.decreases-loop-place
decreases-loop-place g l = length l.initial.pending - l.place
