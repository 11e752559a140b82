-- Lemmas about a token's visits, re-exported for the crates above the ring core.
pub use Rattle.ring_token.proofs.Numbered.{length-numbered, numbered-ring}
pub use Rattle.ring_token.proofs.SafeMark.{safe_mark-turn, safe_mark-raise, safe_mark-below}
pub use Rattle.ring_token.proofs.Safe.{marks_safe}
