-- The part read and the rest decide.
use Rattle.std.proofs.Common.{◌≡◌, drop}
use Rattle.ring_commit.specs.Reports.{reports_of, safe_of}
use Rattle.ring_commit.proofs.Reporting.{safe_from}
use Rattle.ring_commit.proofs.rounds.greatest_reported_mark.Given as goal

abbrev pub invariant-loop-entry : goal.invariant-loop-entry
invariant-loop-entry l = safe_from l.safe l.old (drop l.entry-index l.entries) ≡ safe_of (reports_of l.old l.entries)
