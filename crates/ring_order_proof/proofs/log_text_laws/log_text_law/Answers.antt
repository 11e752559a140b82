use Rattle.ring_order_proof.proofs.LogsOfRuns.{log-text, committed-text}
use Rattle.ring_order_proof.proofs.log_text_laws.log_text_law.Goals as goal

pub returns-clause-log : goal.returns-clause-log
returns-clause-log g c = λ group events node few low high. log-text g.O.Object.sequential group events node few low high

pub returns-clause-committed : goal.returns-clause-committed
returns-clause-committed g c = λ group events node few low high. committed-text g.O.Object.sequential group events node few low high
