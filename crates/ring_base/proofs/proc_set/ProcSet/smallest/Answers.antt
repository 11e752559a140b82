use Rattle.std.proofs.Common.{arith, ◌∙◌}
use Rattle.ring_base.proofs.SetWords.{trailing-member, trailing-smallest}
use Rattle.ring_base.proofs.proc_set.ProcSet.smallest.Goals as goal

pub returns-clause-found : goal.returns-clause-found
returns-clause-found c =
    rw (← c.self.view_is) (c.new.ensures ∙ trailing-smallest c.self.inside.bits (omega arith) c.if-self-eq0.false)

pub returns-clause-member : goal.returns-clause-member
returns-clause-member c = rw (← c.self.view_is, c.new.ensures) (trailing-member c.self.inside.bits (omega arith) c.if-self-eq0.false)
