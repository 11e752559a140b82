use Rattle.ring_window.proofs.Bits.{held_bit}
use Rattle.ring_window.proofs.laws.held_bits_law.Goals as goal

pub returns : goal.returns
returns g c = held_bit
