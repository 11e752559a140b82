-- The remaining reports decide.
use Rattle.std.proofs.Common.{◌≡◌, ◌+◌, true, drop}
use Rattle.std.specs.List.{list_any}
use Rattle.ring_commit.specs.Reports.{none_behind}
use Rattle.ring_recover.specs.Plans.{is_reported}
use Rattle.ring_recover.proofs.reports.is_offset_reported.Given as goal

abbrev pub invariant-loop-report : goal.invariant-loop-report
invariant-loop-report l =
    none_behind l.safe l.reports ≡ true
    → (none_behind l.safe (drop l.report-index l.reports) ≡ true)
    × (list_any (is_reported (l.safe + 1 + l.offset)) (drop l.report-index l.reports) ≡ list_any (is_reported (l.safe + 1 + l.offset)) l.reports)
