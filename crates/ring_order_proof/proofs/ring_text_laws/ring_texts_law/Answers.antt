use Rattle.ring_order_proof.proofs.RunTexts.{all_texts}
use Rattle.ring_order_proof.proofs.ring_text_laws.ring_texts_law.Goals as goal

pub returns : goal.returns
returns g c = all_texts
