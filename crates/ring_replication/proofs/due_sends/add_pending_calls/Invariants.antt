-- The calls of the tickets so far are added.
use Rattle.std.proofs.Common.{◌≡◌, ◌++◌, take}
use Rattle.ring_replication.specs.Replications.{calls_to_resend}
use Rattle.ring_replication.proofs.due_sends.add_pending_calls.Given as goal

abbrev pub invariant-loop-asked : goal.invariant-loop-asked
invariant-loop-asked g l = l.due.items ≡ l.fn.due.items ++ calls_to_resend (take l.asked-index l.pending) l.places
