-- The six parts are in one array.
use Rattle.std.proofs.Common.{◌≡◌, refl}
use Rattle.byteorder.specs.Endian.{big_bytes}
use Rattle.ring_records.proofs.node_records.encode_status.Goals as goal

pub returns : goal.returns
returns c =
    let ring : c.write_u64.new.buf ≡ big_bytes 8 c.args.ring.seq = c.write_u64.ensures in
    let committed : c.write_u64-2.new.buf ≡ big_bytes 8 c.args.committed = rw ring at c.write_u64-2.ensures in
    let log : c.write_u64-3.new.buf ≡ big_bytes 8 c.args.log = rw committed at (rw ring at c.write_u64-3.ensures) in
    let trimmed : c.write_u64-4.new.buf ≡ big_bytes 8 c.args.trimmed = rw log at (rw committed at (rw ring at c.write_u64-4.ensures)) in
    rw (trimmed, log, committed, ring, c.state_byte.ensures, c.number.ensures.value) refl
