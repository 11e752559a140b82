use Rattle.ring_payload.proofs.Writes.{and_then}
use Rattle.ring_wire.specs.Tokens.{token_requests}
use Rattle.ring_wire.proofs.token.TokenEncode.write.Goals as goal

pub write-requires-6-clause-fits : goal.write-requires-6-clause-fits
write-requires-6-clause-fits g c = token_requests c.args.self.now c.requires.fits

pub returns : goal.returns
returns g c = and_then c.write.ensures
    (and_then c.write-2.ensures (and_then c.write-3.ensures
    (and_then c.write-4.ensures (and_then c.write-5.ensures c.write-6.ensures))))
