use Rattle.std.proofs.Common.{rules}
use Rattle.ring_base.proofs.fixed.Fixed.proc.Goals as goal

pub returns-clause-ok : goal.returns-clause-ok
returns-clause-ok c = search rules
