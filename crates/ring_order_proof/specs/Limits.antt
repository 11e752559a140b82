-- The limits of frames that are sent, re-exported to the lines of a book.
pub use Rattle.ring_core_proof.specs.Limits.{SentFits}
