-- The bytes of the record are those of the numbers.
use Rattle.std.proofs.Common.{[], refl}
use Rattle.std.specs.Prelude.{flat_map}
use Rattle.byteorder.specs.Endian.{big_bytes}
use Rattle.ring_records.proofs.Records.{told_as}
use Rattle.ring_records.proofs.node_records.write_counts.Goals as goal

pub returns : goal.returns
returns g c =
    told_as c.write_record.result _ _ 73 _ _ [] (flat_map (big_bytes 8) c.args.numbers.now) refl c.write_u64_into.ensures c.write_record.ensures
