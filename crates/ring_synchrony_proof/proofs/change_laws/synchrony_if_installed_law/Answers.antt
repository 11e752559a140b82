use Rattle.ring_synchrony_proof.proofs.AllOfSynchrony.{synchronous}
use Rattle.ring_synchrony_proof.proofs.change_laws.synchrony_if_installed_law.Goals as goal

pub returns : goal.returns
returns g c = synchronous
