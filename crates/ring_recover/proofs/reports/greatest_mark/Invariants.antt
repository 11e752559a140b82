-- The reports read and those remaining decide.
use Rattle.std.proofs.Common.{◌≡◌, max, drop}
use Rattle.ring_commit.specs.Reports.{safe_of}
use Rattle.ring_recover.proofs.reports.greatest_mark.Given as goal

abbrev pub invariant-loop-report : goal.invariant-loop-report
invariant-loop-report l = max l.greatest (safe_of (drop l.report-index l.reports)) ≡ safe_of l.reports
