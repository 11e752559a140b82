use Rattle.std.proofs.Common.{rules}
use Rattle.refusing_alloc.proofs.RefusingHeap.new.Goals as goal

pub returns : goal.returns
returns g c = search rules
