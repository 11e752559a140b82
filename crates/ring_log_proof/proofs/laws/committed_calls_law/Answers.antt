use Rattle.ring_log_proof.proofs.Moment.{committed-settled, committed-front, one-log, committed-grows}
use Rattle.ring_log_proof.proofs.laws.committed_calls_law.Goals as goal

pub returns-clause-settled : goal.returns-clause-settled
returns-clause-settled g c = λ group m. committed-settled group m.node_epochs m.members m.text m.facts m.discipline

pub returns-clause-front : goal.returns-clause-front
returns-clause-front g c = λ group m. committed-front group m.node_epochs m.members m.text m.facts m.discipline

pub returns-clause-one_list : goal.returns-clause-one_list
returns-clause-one_list g c = λ group m. one-log group m.node_epochs m.members m.text m.facts m.discipline

pub returns-clause-grows : goal.returns-clause-grows
returns-clause-grows g c = λ group m n p on. committed-grows group m n on p
