use Rattle.std.proofs.Common.{rules}
use Rattle.ring_base.proofs.fault.Fault.number.Goals as goal

pub returns : goal.returns
returns c = search rules
