use Rattle.ring_order_proof.proofs.SendOrdersOfNodes.{all_in_order}
use Rattle.ring_order_proof.proofs.ring_text_laws.send_order_law.Goals as goal

pub returns : goal.returns
returns g c = λ group events i. all_in_order g.O.Object.sequential group events i
