use Rattle.ring_synchrony_proof.proofs.Order.{all_keep_order}
use Rattle.ring_synchrony_proof.proofs.ready_laws.ends_order_law.Goals as goal

pub returns : goal.returns
returns g c = all_keep_order
