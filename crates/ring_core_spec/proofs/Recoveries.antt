-- Lemmas about recovered messages, re-exported for the crates above the ring core.
pub use Rattle.ring_recover.proofs.TransitionalMembersCollected.{union_apart}
pub use Rattle.ring_recover.proofs.Finishing.{same_rests}
pub use Rattle.ring_recover.proofs.EndsCounted.{end_no_user}
pub use Rattle.ring_recover.proofs.Planning.{safe_low}
