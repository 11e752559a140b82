use Rattle.std.proofs.Common.{rules}
use Rattle.ring_base.proofs.ring_id.RingId.is_below.Goals as goal

pub returns : goal.returns
returns c = search rules
