use Rattle.ring_codec.proofs.Writes.{and_then}
use Rattle.ring_payload.proofs.content.WrappedEncode.write.Goals as goal

pub returns : goal.returns
returns g c = and_then c.write.ensures (and_then c.write-2.ensures (and_then c.write-3.ensures c.write-4.ensures))
