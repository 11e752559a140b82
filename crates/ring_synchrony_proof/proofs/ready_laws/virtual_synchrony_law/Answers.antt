use Rattle.ring_synchrony_proof.proofs.Installed.{all_synchronous}
use Rattle.ring_synchrony_proof.proofs.ready_laws.virtual_synchrony_law.Goals as goal

pub returns : goal.returns
returns g c = all_synchronous
