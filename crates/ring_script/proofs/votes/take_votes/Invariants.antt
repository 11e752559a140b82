use Rattle.std.proofs.Common.{◌≡◌, ◌-◌, take, length}
use Rattle.ring_script.specs.Votes.{votes_at}
use Rattle.ring_script.proofs.Voting.{with_front}
use Rattle.ring_script.proofs.votes.take_votes.Given as goal

-- The votes so far, and then those of the remaining words, are those of all words.
abbrev pub invariant-loop-i : goal.invariant-loop-i
invariant-loop-i l = record {
  read : with_front (take l.i l.votes) (votes_at (l.count - l.i) l.words) ≡ votes_at l.count l.initial.words;
  long : length l.votes ≡ 16;
}
