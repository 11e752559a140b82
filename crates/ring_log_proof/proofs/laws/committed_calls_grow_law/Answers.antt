use Rattle.std.specs.Prelude.{Contains}
use Rattle.ring_base.proofs.Each.{each-front}
use Rattle.ring_log.specs.EpochHistories.{log_of}
use Rattle.ring_log_proof.specs.EpochEvents.{committed_at}
use Rattle.ring_log_proof.proofs.Issued.{logs-known}
use Rattle.ring_log_proof.proofs.Moment.{committed-front, one-log}
use Rattle.ring_log_proof.proofs.LogsInRuns.{run-grows}
use Rattle.ring_log_proof.proofs.laws.committed_calls_grow_law.Goals as goal

pub returns-clause-grows : goal.returns-clause-grows
returns-clause-grows g c = λ group moment rest p run. run-grows moment rest run p

pub returns-clause-one_list : goal.returns-clause-one_list
returns-clause-one_list g c = λ group moment.
    let m = moment.now in
    one-log group m.node_epochs m.members m.text m.facts m.discipline

pub returns-clause-issued : goal.returns-clause-issued
returns-clause-issued g c = λ group moment p.
    let m = moment.now in
    each-front (Contains moment.issued) (committed_at moment p) (log_of group (m.node_epochs p))
    (committed-front group m.node_epochs m.members m.text m.facts m.discipline p)
    (logs-known (Contains moment.issued) group m.node_epochs m.members m.text m.facts m.discipline moment.handed p)
