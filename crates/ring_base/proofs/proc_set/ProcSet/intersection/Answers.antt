use Rattle.std.proofs.Common.{rules}
use Rattle.ring_base.specs.Members.{intersection_members}
use Rattle.ring_base.proofs.proc_set.ProcSet.intersection.Goals as goal

pub returns-clause-members : goal.returns-clause-members
returns-clause-members c = λ i. rw (← c.self.view_is, ← c.other.view_is) (intersection_members c.self.inside.bits c.other.inside.bits i)

pub returns-clause-value : goal.returns-clause-value
returns-clause-value c = search rules
