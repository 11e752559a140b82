use Rattle.std.proofs.Common.{◌+◌, rules}
use Rattle.std.specs.List.{list_any}
use Rattle.ring_recover.specs.Plans.{is_reported}
use Rattle.ring_recover.proofs.reports.reported_offsets_after.Goals as goal

pub returns : goal.returns
returns c = λ j l. c.from_test.ensures (λ i. list_any (is_reported (c.args.safe + 1 + i)) c.args.reports.now) (λ i r m p. search rules) j l
