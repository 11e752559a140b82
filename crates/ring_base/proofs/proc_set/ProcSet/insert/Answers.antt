use Rattle.std.proofs.Common.{rules}
use Rattle.ring_base.proofs.proc_set.ProcSet.insert.Goals as goal

pub returns-clause-added : goal.returns-clause-added
returns-clause-added c = search rules
