-- The matching entries among those read.
use Rattle.std.proofs.Common.{◌≡◌, ◌≤◌, length, take}
use Rattle.ring_commit.specs.Reports.{reports_of}
use Rattle.ring_recover.proofs.reports.reports_of.Given as goal

abbrev pub invariant-loop-entry : goal.invariant-loop-entry
invariant-loop-entry l = (l.reports ≡ reports_of l.old (take l.entry-index l.entries)) × (length l.reports ≤ l.entry-index)
