-- The tickets of the calls so far are marked.
use Rattle.std.proofs.Common.{take}
use Rattle.ring_session.specs.Buckets.{AreCommitted}
use Rattle.ring_session.proofs.tickets.committed_among.Given as goal

abbrev pub invariant-loop-call : goal.invariant-loop-call
invariant-loop-call g l = AreCommitted l.committed_flags.committed_marks (take l.call-index l.committed) l.pending
