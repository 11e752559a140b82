use Rattle.std.proofs.Common.{subst}
use Rattle.ring_object.specs.Bytes.{AreBytes}
use Rattle.ring_order_proof.proofs.limit_laws.call_fits_snapshot_law.Goals as goal

pub returns : goal.returns
returns g c = λ fits. record { fits = fits; bytes = subst AreBytes c.as_slice.ensures c.operation_bytes_law.ensures }
