-- Definitions of the limits of frames, re-exported for the book.
pub use Rattle.ring_order_proof.specs.NodeFits.{NodeFits}
