-- The share of a set of nodes in all votes.
-- Rules: Processors and sets 4
-- Formats: The command line
use Rattle.std.specs.Prelude.{ℕ}
use Rattle.std.specs.List.{sum}
use Rattle.ring_base.specs.Group.{Group, votes_in, is_primary}
use Rattle.ring_trace_words.specs.declared.vote_share.VoteShare.{VoteShare}

-- The votes of the set's members, all votes, and whether the set is primary.
abbrev pub vote_share : Group → ℕ → VoteShare
vote_share nodes set = record { own = votes_in nodes set; all = sum nodes.votes; is_primary = is_primary nodes set }
