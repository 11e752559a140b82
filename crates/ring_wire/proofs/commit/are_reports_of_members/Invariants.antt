use Rattle.std.proofs.Common.{◌≡◌, drop}
use Rattle.ring_payload.specs.Base.{elements}
use Rattle.ring_wire.specs.Commits.{are_reports_of_members as are_reports_of}
use Rattle.ring_wire.proofs.commit.are_reports_of_members.Given as goal

-- the rest decides
abbrev pub invariant-loop-entry : goal.invariant-loop-entry
invariant-loop-entry l = are_reports_of l.ring (elements l.left) (drop l.entry-index l.entries) ≡ are_reports_of l.ring (elements l.fn.members) l.entries
