use Rattle.std.proofs.Common.{arith, length, ap}
use Rattle.ring_wire.specs.Tokens.{length-requests}
use Rattle.ring_wire.proofs.requests.RequestsEncode.encoded_len.Goals as goal

pub returns-clause-value : goal.returns-clause-value
returns-clause-value c = omega (arith, length-requests c.args.self.now, ap length c.as_slice.ensures.value)
