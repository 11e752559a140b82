-- Definitions of windows, re-exported for the ring core.
pub use Rattle.ring_window.specs.Held.{found, holds, front_of, highest, missing, is_new, of_ring, is_numbered, in_window}
pub use Rattle.ring_window.specs.Bits.{held_bits, bytes_from_bits}
