use Rattle.ring_window.proofs.Windows.{opened_is}
use Rattle.ring_window.proofs.window.Window.new.Goals as goal

pub invariant_of-result : goal.invariant_of-result
invariant_of-result g c = rw c.empty_held_history.ensures
    (opened_is c.args.ring c.new.result.words c.in_ok-empty_slots.field-0.items c.new.ensures
    c.in_ok-empty_slots.ensures.count c.in_ok-empty_slots.ensures.empty)
