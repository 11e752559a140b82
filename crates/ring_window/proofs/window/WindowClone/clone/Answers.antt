-- The held messages and the places are equal, so the copy has the window's invariant.
use Rattle.ring_window.proofs.window.WindowClone.clone.Goals as goal

pub invariant_of-result : goal.invariant_of-result
invariant_of-result g c = rw (c.in_ok-clone.ensures.cases, c.in_ok-copied_slots.ensures) c.self.invariant
