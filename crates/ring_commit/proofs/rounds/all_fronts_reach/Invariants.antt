-- The rest decides.
use Rattle.std.proofs.Common.{◌≡◌, drop}
use Rattle.ring_commit.specs.Reports.{reports_of, none_behind as is_none_behind}
use Rattle.ring_commit.proofs.rounds.all_fronts_reach.Given as goal

abbrev pub invariant-loop-entry : goal.invariant-loop-entry
invariant-loop-entry l = is_none_behind l.safe (reports_of l.old (drop l.entry-index l.entries)) ≡ is_none_behind l.safe (reports_of l.old l.entries)
