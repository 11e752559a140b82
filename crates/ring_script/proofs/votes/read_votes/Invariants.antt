use Rattle.std.proofs.Common.{◌≡◌, length}
use Rattle.ring_script.specs.Votes.{votes_in}
use Rattle.ring_script.proofs.votes.read_votes.Given as goal

-- The remaining lines give the same votes as all lines, and so does the copy of them.
abbrev pub invariant-loop-number : goal.invariant-loop-number
invariant-loop-number l = record {
  told : votes_in l.nodes l.lines.before l.lines.lines ≡ votes_in l.nodes l.initial.lines.before l.initial.lines.lines;
  same : l.from ≡ l.lines;
}

abbrev pub decreases-loop-number : goal.decreases-loop-number
decreases-loop-number l = length l.lines.lines
