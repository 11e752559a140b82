use Rattle.std.proofs.Common.{arith}
use Rattle.ring_base.proofs.SetWords.{shl_only}
use Rattle.ring_base.specs.Members.{only_members}
use Rattle.ring_base.proofs.proc_set.ProcSet.singleton.Goals as goal

pub returns-clause-members : goal.returns-clause-members
returns-clause-members c = λ i. rw (shl_only c.number.result c.number.ensures.in_range, c.number.ensures.value) (only_members c.args.proc i (omega arith))
