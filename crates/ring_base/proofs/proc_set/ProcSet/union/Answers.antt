use Rattle.ring_base.specs.Members.{union_members}
use Rattle.ring_base.proofs.proc_set.ProcSet.union.Goals as goal

pub returns-clause-members : goal.returns-clause-members
returns-clause-members c = λ i. rw (← c.self.view_is, ← c.other.view_is) (union_members c.self.inside.bits c.other.inside.bits i)
