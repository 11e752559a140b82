-- Lemmas about the reports of commit tokens, re-exported for the crates above the ring core.
pub use Rattle.ring_recover.proofs.Commits.{none_behind-at, own_stands}
