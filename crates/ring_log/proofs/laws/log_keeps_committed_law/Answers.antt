use Rattle.ring_log.proofs.Calls.{committed-first, committed-followed, committed-adopted, committed-raised, committed-dropped}
use Rattle.ring_log.proofs.laws.log_keeps_committed_law.Goals as goal

pub returns-clause-first : goal.returns-clause-first
returns-clause-first g c = committed-first

pub returns-clause-followed : goal.returns-clause-followed
returns-clause-followed g c = committed-followed

pub returns-clause-adopted : goal.returns-clause-adopted
returns-clause-adopted g c = committed-adopted

pub returns-clause-committed : goal.returns-clause-committed
returns-clause-committed g c = committed-raised

pub returns-clause-dropped : goal.returns-clause-dropped
returns-clause-dropped g c = committed-dropped
