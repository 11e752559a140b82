use Rattle.ring_synchrony_proof.proofs.ThreeFacts.{deliver_alike, have_configurations, deliver_own}
use Rattle.ring_synchrony_proof.proofs.change_laws.three_facts_law.Goals as goal

pub returns-clause-same_deliveries : goal.returns-clause-same_deliveries
returns-clause-same_deliveries g c = deliver_alike

pub returns-clause-configurations : goal.returns-clause-configurations
returns-clause-configurations g c = have_configurations

pub returns-clause-own_delivery : goal.returns-clause-own_delivery
returns-clause-own_delivery g c = deliver_own
