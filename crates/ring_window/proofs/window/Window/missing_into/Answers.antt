use Rattle.std.proofs.Common.{length, ap, arith}
use Rattle.ring_window.proofs.Missing.{counted_first, counted_more, counted_full}
use Rattle.ring_window.proofs.window.Window.missing_into.Goals as goal

pub loop-offset-init : goal.loop-offset-init
loop-offset-init g c = rw c.clear.ensures (counted_first _ _ _ _ _ c.self.invariant c.args.upto _ (omega arith))

pub loop-offset-preserved : goal.loop-offset-preserved
loop-offset-preserved g c =
    rw c.push.ensures (counted_more _ _ _ _ _ c.self.invariant c.args.upto _ _ _ _ c.loop-offset.invariant
    c.loop-offset-test.true (omega (arith, ap length c.as_slice.ensures.value)) c.first_clear-offset.ensures)

pub returns-else-as_slice-lt-MAX_REQUESTS : goal.returns-else-as_slice-lt-MAX_REQUESTS
returns-else-as_slice-lt-MAX_REQUESTS g c = rw (← c.self.view_is) (counted_full _ _ _ _ _ _ c.loop-offset.invariant
    (omega (arith, ap length c.as_slice.ensures.value)))
