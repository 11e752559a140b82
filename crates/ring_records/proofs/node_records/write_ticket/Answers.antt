use Rattle.std.proofs.Common.{rules, [], refl}
use Rattle.byteorder.specs.Endian.{big_bytes}
use Rattle.ring_records.proofs.Records.{told_as}
use Rattle.ring_records.proofs.node_records.write_ticket.Goals as goal

pub returns : goal.returns
returns g c = told_as c.write_record.result _ _ 84 _ _ (big_bytes 8 c.args.ticket) [] (search rules) refl c.write_record.ensures
