use Rattle.std.proofs.Common.{rules}
use Rattle.ring_base.proofs.fault.Fault.text.Goals as goal

pub returns-in-Stale : goal.returns-in-Stale
returns-in-Stale c = search rules
