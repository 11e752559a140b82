use Rattle.ring_window.proofs.Missing.{bits_given}
use Rattle.ring_window.proofs.window.Window.held_bits.Goals as goal

pub returns : goal.returns
returns g c = rw (← c.self.view_is) (bits_given _ _ _ _ _ c.self.invariant c.bytes_from.result c.bytes_from.ensures.count c.bytes_from.ensures.bytes)
