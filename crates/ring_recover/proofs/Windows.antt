-- Lemmas about what a window holds, and about its bits, re-exported for the ring core.
pub use Rattle.ring_window.proofs.HeldFront.{front_is, highest_covers, front_only, front_grows}
pub use Rattle.ring_window.proofs.Finding.{holds-found, found-holds, holds-more}
pub use Rattle.ring_window.proofs.Bits.{held_bit}
pub use Rattle.ring_window.proofs.OfRing.{front_of_ring, held_bits_of_ring}
pub use Rattle.ring_window.proofs.Missing.{length-bytes_from_bits}
