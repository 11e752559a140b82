-- Definitions of commit tokens, re-exported for the crates above the ring core.
pub use Rattle.ring_recover.specs.Commits.{Configuration, reports_of, same_entry, safe_of, none_behind, is_sound, is_own, position_of_hop}
pub use Rattle.ring_recover.specs.Commits.{receiver, is_of, hop_with_entries, is_start, proposal, is_at}
