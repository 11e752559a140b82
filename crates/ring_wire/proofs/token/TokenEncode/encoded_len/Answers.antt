use Rattle.std.proofs.Common.{arith}
use Rattle.ring_wire.specs.Tokens.{length-requests, token_requests}
use Rattle.ring_wire.proofs.token.TokenEncode.encoded_len.Goals as goal

pub encoded_len-requires : goal.encoded_len-requires
encoded_len-requires c = token_requests c.args.self.now c.requires

pub returns-clause-small : goal.returns-clause-small
returns-clause-small c = omega (arith, length-requests c.args.self.now.requests, c.encoded_len.ensures.value, c.requires.few)
