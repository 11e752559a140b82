use Rattle.std.specs.Prelude.{Contains}
use Rattle.ring_base.proofs.Each.{each-front}
use Rattle.ring_log.specs.EpochHistories.{log_of, committed_of}
use Rattle.ring_log_proof.proofs.Issued.{logs-known}
use Rattle.ring_log_proof.proofs.Moment.{committed-front}
use Rattle.ring_log_proof.proofs.laws.only_issued_calls_law.Goals as goal

pub returns-clause-logs : goal.returns-clause-logs
returns-clause-logs g c = λ group m issued p epochs_with_sends. logs-known (Contains issued) group m.node_epochs m.members m.text m.facts m.discipline epochs_with_sends p

pub returns-clause-committed : goal.returns-clause-committed
returns-clause-committed g c = λ group m issued p epochs_with_sends.
    each-front (Contains issued) (committed_of group (m.node_epochs p)) (log_of group (m.node_epochs p))
    (committed-front group m.node_epochs m.members m.text m.facts m.discipline p)
    (logs-known (Contains issued) group m.node_epochs m.members m.text m.facts m.discipline epochs_with_sends p)
