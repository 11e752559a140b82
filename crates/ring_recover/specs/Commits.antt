-- Definitions of the commit token's rounds, re-exported for the ring core.
pub use Rattle.ring_commit.specs.Reports.{reports_of, safe_of, same_entry, none_behind, is_sound}
pub use Rattle.ring_commit.specs.Outcomes.{is_at}
pub use Rattle.ring_commit.specs.Rounds.{receiver, hop_with_entries, proposal, is_first_round, is_second_round, is_start, is_own, position_of_hop}
pub use Rattle.ring_commit.specs.Rounds.{is_of}
pub use Rattle.ring_commit.specs.declared.configuration.Configuration.{Configuration}
