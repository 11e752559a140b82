-- The members collected and those still to come are all.
use Rattle.std.proofs.Common.{drop}
use Rattle.ring_base.specs.Processors.{elements}
use Rattle.ring_recover.proofs.TransitionalMembersCollected.{IsGathered}
use Rattle.ring_recover.proofs.reports.transitional_members_among.Given as goal

abbrev pub invariant-loop-entry : goal.invariant-loop-entry
invariant-loop-entry l =
    (goal.iterator-loop-entry).can_next l.left × (goal.iterator-loop-entry).is_finite l.left
    × IsGathered l.old (elements l.fn.members) l.entries l.transitional_members (elements l.left) (drop l.entry-index l.entries)
