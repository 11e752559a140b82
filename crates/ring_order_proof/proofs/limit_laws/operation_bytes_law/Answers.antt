use Rattle.ring_object.specs.Bytes.{AreBytes-fits}
use Rattle.ring_order_proof.proofs.limit_laws.operation_bytes_law.Goals as goal

pub returns : goal.returns
returns c = AreBytes-fits c.args.bytes.now c.type_inv.bytes
