use Rattle.std.specs.Prelude.{Contains}
use Rattle.ring_log_proof.proofs.RunEpochs.{events-on, node_epochs-orderly, node_epochs-dropping, node_epochs-known}
use Rattle.ring_log_proof.proofs.laws.events_extend_epochs_law.Goals as goal

pub returns-clause-goes_on : goal.returns-clause-goes_on
returns-clause-goes_on g c = events-on

pub returns-clause-discipline : goal.returns-clause-discipline
returns-clause-discipline g c = node_epochs-orderly

pub returns-clause-issued : goal.returns-clause-issued
returns-clause-issued g c = λ issued. node_epochs-known (Contains issued)

pub returns-clause-drops : goal.returns-clause-drops
returns-clause-drops g c = node_epochs-dropping
