use Rattle.std.proofs.Common.{rules}
use Rattle.ring_base.proofs.last_primary_order.is_primary_below.Goals as goal

pub returns : goal.returns
returns c = search rules
