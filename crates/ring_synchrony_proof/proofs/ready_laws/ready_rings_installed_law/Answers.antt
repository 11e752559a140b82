use Rattle.ring_synchrony_proof.proofs.Installed.{all_complete, all_ready, all_heard}
use Rattle.ring_synchrony_proof.proofs.ready_laws.ready_rings_installed_law.Goals as goal

pub returns-clause-complete : goal.returns-clause-complete
returns-clause-complete g c = all_complete

pub returns-clause-installed : goal.returns-clause-installed
returns-clause-installed g c = all_ready

pub returns-clause-heard : goal.returns-clause-heard
returns-clause-heard g c = all_heard
