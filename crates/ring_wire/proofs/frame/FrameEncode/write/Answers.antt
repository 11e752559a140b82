use Rattle.ring_payload.proofs.Writes.{and_then}
use Rattle.ring_wire.proofs.frame.FrameEncode.write.Goals as goal

pub returns-in-Message : goal.returns-in-Message
returns-in-Message g c =
    let version = rw (c.version.ensures, c.in-Message.is) at c.write-3.ensures in
    rw c.in-Message.is (and_then c.write.ensures (and_then c.write-2.ensures (and_then version (and_then c.write-in-Message.ensures c.encode_length_prefixed.ensures))))

pub returns-in-Token : goal.returns-in-Token
returns-in-Token g c =
    let version = rw (c.version.ensures, c.in-Token.is) at c.write-3.ensures in
    rw c.in-Token.is (and_then c.write.ensures
    (and_then c.write-2.ensures (and_then version
    (and_then c.write-in-Token.ensures c.encode_length_prefixed-in-Token.ensures))))

pub returns-in-Join : goal.returns-in-Join
returns-in-Join g c =
    let version = rw (c.version.ensures, c.in-Join.is) at c.write-3.ensures in
    rw c.in-Join.is (and_then c.write.ensures (and_then c.write-2.ensures (and_then version (and_then c.write-in-Join.ensures c.encode_length_prefixed-in-Join.ensures))))

pub returns-in-Commit : goal.returns-in-Commit
returns-in-Commit g c =
    let version = rw (c.version.ensures, c.in-Commit.is) at c.write-3.ensures in
    rw c.in-Commit.is (and_then c.write.ensures
    (and_then c.write-2.ensures (and_then version
    (and_then c.write-in-Commit.ensures c.encode_length_prefixed-in-Commit.ensures))))
