use Rattle.std.proofs.Common.{◌∙◌, arith, length-set}
use Rattle.std.specs.Prelude.{None, ◌%◌}
use Rattle.ring_window.proofs.Windows.{cleared_more, others_more}
use Rattle.ring_window.proofs.window.clear_slots.Goals as goal

pub loop-before-preserved : goal.loop-before-preserved
loop-before-preserved g c =
    let xs = c.loop-before.places.items in
    let i = c.loop-before.invariant in
    rw c.take.ensures.after (
      length-set xs (c.loop-before.before % 256) None ∙ i.0,
      cleared_more xs c.args.mark c.loop-before.before i.0 (omega arith) (omega arith) i.1,
      λ n l m. others_more xs c.args.mark c.loop-before.before (omega arith) (omega arith) n l m ∙ i.2 n (omega arith) m,
    )

pub returns-clause-others : goal.returns-clause-others
returns-clause-others g c = λ n l m. c.loop-before.invariant.2 n (omega arith) m
