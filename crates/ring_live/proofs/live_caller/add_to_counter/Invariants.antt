use Rattle.std.proofs.Common.{◌≡◌, ◌+◌}
use Rattle.ring_live.proofs.live_caller.add_to_counter.Given as goal

-- The client's number has risen by the number of adds answered so far.
abbrev pub invariant-loop-answered : goal.invariant-loop-answered
invariant-loop-answered g l = l.client.next ≡ l.initial.client.next + l.answered
