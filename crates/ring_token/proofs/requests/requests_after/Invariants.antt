-- The numbers taken so far and the rest of both lists give the same result.
use Rattle.std.proofs.Common.{◌-◌, length, take}
use Rattle.ring_base.specs.Numbers.{merged_ascending}
use Rattle.ring_token.proofs.Merging.{AreTaken}
use Rattle.ring_token.proofs.requests.requests_after.Given as goal

abbrev pub invariant-loop-requests_left : goal.invariant-loop-requests_left
invariant-loop-requests_left l = AreTaken l.smallest l.requests_left l.lacking (take 32 (merged_ascending l.remaining_requests l.missing))

abbrev pub decreases-loop-requests_left : goal.decreases-loop-requests_left
decreases-loop-requests_left l = 32 - length l.smallest
