use Rattle.std.proofs.Common.{arith}
use Rattle.ring_codec.proofs.Writes.{and_then}
use Rattle.ring_payload.specs.Heads.{untrimmed_head-encoding, trimmed_head-encoding}
use Rattle.ring_payload.proofs.head.HeadEncode.write.Goals as goal

pub returns-then-self-ne0 : goal.returns-then-self-ne0
returns-then-self-ne0 g c =
    let e = (trimmed_head-encoding c.args.self.now (omega (arith, c.if-self-ne0.true))).1 in
    rw e (and_then (rw c.head_tag_byte.ensures at c.write.ensures)
    (and_then c.write-2.ensures (and_then c.write-3.ensures
    (and_then c.write-4.ensures c.write-then-self-ne0.ensures))))

pub returns-else-self-ne0 : goal.returns-else-self-ne0
returns-else-self-ne0 g c =
    let e = (untrimmed_head-encoding c.args.self.now c.if-self-ne0.false).1 in
    rw e (and_then (rw c.head_tag_byte.ensures at c.write.ensures) (and_then c.write-2.ensures (and_then c.write-3.ensures c.write-4.ensures)))
