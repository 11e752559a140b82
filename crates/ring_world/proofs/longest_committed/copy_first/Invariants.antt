-- The first calls of the segments so far are copied.
use Rattle.std.proofs.Common.{◌≡◌, take}
use Rattle.ring_world.specs.LongestCommitted.{calls_of}
use Rattle.ring_world.proofs.longest_committed.copy_first.Given as goal

abbrev pub invariant-loop-segment : goal.invariant-loop-segment
invariant-loop-segment g l = l.copies.items ≡ take l.many (calls_of (take l.segment-index l.segments))
