use Rattle.std.proofs.Common.{sym, arith}
use Rattle.ring_base.specs.Elements.{size-ones}
use Rattle.ring_base.proofs.proc_set.ProcSet.len.Goals as goal

pub returns-clause-value : goal.returns-clause-value
returns-clause-value c = rw (← c.self.view_is) (sym (size-ones c.self.inside.bits (omega arith)))
