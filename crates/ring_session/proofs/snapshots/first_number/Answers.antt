use Rattle.std.proofs.Common.{arith}
use Rattle.byteorder.specs.Numbers.{big_from-lt}
use Rattle.ring_session.proofs.snapshots.first_number.Goals as goal

pub returns-clause-in_range : goal.returns-clause-in_range
returns-clause-in_range c =
    rw c.read_uint.ensures (big_from-lt 0 c.args.width c.args.bytes.now (λ k. omega (arith, c.type_inv.bytes k)))
