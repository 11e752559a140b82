use Rattle.ring_base.specs.Members.{within_members}
use Rattle.ring_base.proofs.proc_set.ProcSet.is_subset.Goals as goal

pub returns-clause-members : goal.returns-clause-members
returns-clause-members c = rw (← c.self.view_is, ← c.other.view_is) (within_members c.self.inside.bits c.other.inside.bits)
