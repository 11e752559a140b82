use Rattle.std.proofs.Common.{arith}
use Rattle.ring_window.proofs.Windows.{forgotten_is}
use Rattle.ring_window.proofs.window.Window.forget.Goals as goal

pub invariant_of-self : goal.invariant_of-self
invariant_of-self g c =
    let r = rw (← c.self.view_is) at c.requires in
    let e = c.clear_slots.ensures in
    forgotten_is (record { ring = c.self.inside.ring; mark = c.self.inside.mark; held = c.self.inside.history.value })
    c.args.upto _ _ _ _ _ _ c.self.invariant (omega arith) (omega (arith, r, c.self.invariant.front_is))
    c.shifted_down-self-inside.ensures e.count e.cleared e.others
