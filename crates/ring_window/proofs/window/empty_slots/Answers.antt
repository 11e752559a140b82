use Rattle.std.proofs.Common.{arith}
use Rattle.std.proofs.lemmas.List.{length_push}
use Rattle.std.specs.Prelude.{None}
use Rattle.ring_window.proofs.Windows.{none_more}
use Rattle.ring_window.proofs.window.empty_slots.Goals as goal

pub loop-preserved : goal.loop-preserved
loop-preserved g c = rw c.in_ok-push.ensures.items (
  omega (arith, length_push c.loop.places.items None, c.loop.invariant.0),
  none_more c.loop.places.items c.loop.invariant.1,
)
