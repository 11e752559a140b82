-- The reports read and those remaining decide.
use Rattle.std.proofs.Common.{◌≡◌, ◌∷◌, map, drop}
use Rattle.ring_commit.specs.Tokens.{CommitEntry}
use Rattle.ring_recover.specs.Plans.{least}
use Rattle.ring_recover.proofs.reports.least_front.Given as goal

abbrev pub invariant-loop-report : goal.invariant-loop-report
invariant-loop-report l = least (l.least ∷ map (λ (e : CommitEntry). e.front) (drop l.report-index l.rest)) ≡ least (map
    (λ (e : CommitEntry). e.front) l.fn.reports)
