-- Lemmas about what a window holds, and about its bits, re-exported for the crates above the ring core.
pub use Rattle.ring_recover.proofs.Windows.{front_is, highest_covers, front_only, front_grows, holds-found, found-holds, holds-more, held_bit}
pub use Rattle.ring_recover.proofs.Windows.{front_of_ring, held_bits_of_ring, length-bytes_from_bits}
