-- Definitions of windows, re-exported for the crates above the ring core.
pub use Rattle.ring_recover.specs.Windows.{found, holds, of_ring, front_of, is_numbered, highest, is_new, in_window, missing, held_bits, bytes_from_bits}
