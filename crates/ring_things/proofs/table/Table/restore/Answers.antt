use Rattle.ring_object.specs.Bytes.{AreBytes-fits}
use Rattle.ring_things.specs.Table.{IsTable-numbers_from_bytes, keys}
use Rattle.ring_things.proofs.table.Table.restore.Goals as goal

pub invariant_of-result : goal.invariant_of-result
invariant_of-result g c = rw c.in_ok-numbers.ensures.ok (IsTable-numbers_from_bytes keys c.args.bytes.now (AreBytes-fits c.args.bytes.now c.type_inv.bytes))
