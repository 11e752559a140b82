use Rattle.std.proofs.Common.{arith}
use Rattle.ring_base.proofs.SetWords.{ones-position_of}
use Rattle.ring_base.specs.Elements.{position_of-inside}
use Rattle.ring_base.proofs.proc_set.ProcSet.position_of.Goals as goal

pub returns-clause-value : goal.returns-clause-value
returns-clause-value c =
    rw (← c.self.view_is, ← c.number.ensures.value) (ones-position_of c.self.inside.bits c.number.result (omega arith) c.number.ensures.in_range)

pub returns-clause-inside : goal.returns-clause-inside
returns-clause-inside c = λ m.
    let proc = rw c.number.ensures.value at c.number.ensures.in_range in
    rw (returns-clause-value c) (position_of-inside c.args.self c.args.proc proc m)
