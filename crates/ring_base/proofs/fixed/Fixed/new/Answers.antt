use Rattle.std.proofs.Common.{arith}
use Rattle.std.proofs.lemmas.List.{take-replicate}
use Rattle.ring_base.proofs.Votes.{new_votes}
use Rattle.ring_base.proofs.fixed.Fixed.new.Goals as goal

pub returns-clause-ok : goal.returns-clause-ok
returns-clause-ok c = new_votes c.with_votes.result c.args.count _ (take-replicate c.args.count 16 1 (omega arith))
    (rw c.from.ensures at c.with_votes.ensures.ok)
