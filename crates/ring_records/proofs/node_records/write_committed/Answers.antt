-- The parts of the record are the client's and the number's bytes, and the operation.
use Rattle.std.proofs.Common.{◌≡◌}
use Rattle.byteorder.specs.Endian.{big_bytes}
use Rattle.ring_records.proofs.node_records.write_committed.Goals as goal

pub returns : goal.returns
returns g c =
    let client : c.write_u32.new.buf ≡ big_bytes 4 c.args.call.now.client = c.write_u32.ensures in
    let number : c.write_u64.new.buf ≡ big_bytes 8 c.args.call.now.number = rw client at c.write_u64.ensures in
    rw c.as_slice.ensures at (rw number at (rw client at c.write_record.ensures))
