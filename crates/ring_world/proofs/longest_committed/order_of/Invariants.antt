-- The effective calls of the segments so far.
use Rattle.std.proofs.Common.{take}
use Rattle.ring_session.specs.Effects.{AreEffectsOf}
use Rattle.ring_world.specs.LongestCommitted.{calls_of}
use Rattle.ring_world.proofs.longest_committed.order_of.Given as goal

abbrev pub invariant-loop-segment : goal.invariant-loop-segment
invariant-loop-segment g l = AreEffectsOf (calls_of (take l.segment-index l.segments)) l.effects
