use Rattle.std.proofs.Common.{take}
use Rattle.ring_session.specs.Effects.{AreEffectsOf}
use Rattle.ring_book_lines.specs.Logs.{calls_at}
use Rattle.ring_book_lines.proofs.orders.order_of_segments.Given as goal

abbrev pub invariant-loop-segment : goal.invariant-loop-segment
invariant-loop-segment g l = AreEffectsOf (calls_at l.lines (take l.segment-index l.segments)) l.effects
