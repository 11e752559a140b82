use Rattle.std.proofs.Common.{◌+◌, ◌%◌, ◌<◌, arith}
use Rattle.ring_base.specs.Elements.{at_member}
use Rattle.ring_base.specs.Processors.{size}
use Rattle.ring_base.proofs.proc_set.ProcSet.next_cyclic.Goals as goal

pub returns-clause-member : goal.returns-clause-member
returns-clause-member c =
    let inside : (c.position_of-following.result + 1) % c.len-size.result < size c.args.self =
    omega (arith, c.position_of-following.ensures.inside c.requires) in
    let found = rw c.unwrap.ensures at c.at.ensures.found in
    rw found (at_member c.args.self ((c.position_of-following.result + 1) % c.len-size.result) inside).1
