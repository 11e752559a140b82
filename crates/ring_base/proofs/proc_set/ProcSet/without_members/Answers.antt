use Rattle.std.proofs.Common.{arith}
use Rattle.ring_base.proofs.SetWords.{and_not-less}
use Rattle.ring_base.specs.Members.{less_members}
use Rattle.ring_base.proofs.proc_set.ProcSet.without_members.Goals as goal

pub returns-clause-members : goal.returns-clause-members
returns-clause-members c = λ i. rw (
  and_not-less c.self.inside.bits c.other.inside.bits (omega arith) (omega arith),
  ← c.self.view_is,
  ← c.other.view_is,
) (less_members c.self.inside.bits c.other.inside.bits i)

pub returns-clause-value : goal.returns-clause-value
returns-clause-value c = rw (← c.self.view_is, ← c.other.view_is) (and_not-less c.self.inside.bits c.other.inside.bits (omega arith) (omega arith))
