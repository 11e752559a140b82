use Rattle.ring_synchrony_proof.proofs.FactsByTests.{same_text_decides, safely_decides, alike_all, configurations_all, own_all, synchrony_decides}
use Rattle.ring_synchrony_proof.proofs.test_laws.tests_decide_facts_law.Goals as goal

pub returns-clause-same_text : goal.returns-clause-same_text
returns-clause-same_text g c = same_text_decides

pub returns-clause-safe_delivery : goal.returns-clause-safe_delivery
returns-clause-safe_delivery g c = safely_decides

pub returns-clause-same_deliveries : goal.returns-clause-same_deliveries
returns-clause-same_deliveries g c = alike_all

pub returns-clause-configurations : goal.returns-clause-configurations
returns-clause-configurations g c = configurations_all

pub returns-clause-own_delivery : goal.returns-clause-own_delivery
returns-clause-own_delivery g c = own_all

pub returns-clause-all : goal.returns-clause-all
returns-clause-all g c = synchrony_decides
