-- Lemmas about the reports of commit tokens, re-exported for the ring core.
pub use Rattle.ring_commit.proofs.Reporting.{none_behind-at, own_stands}
