-- The parts of the record are the ring's number and representative, and the members.
use Rattle.std.proofs.Common.{◌≡◌}
use Rattle.byteorder.specs.Endian.{big_bytes}
use Rattle.ring_records.proofs.node_records.write_members.Goals as goal

pub returns : goal.returns
returns g c =
    let ring : c.write_u64.new.buf ≡ big_bytes 8 c.args.ring.seq = c.write_u64.ensures in
    rw c.number-bytes.ensures.value at (rw ring at (rw c.encode_membership.ensures at c.write_record.ensures))
