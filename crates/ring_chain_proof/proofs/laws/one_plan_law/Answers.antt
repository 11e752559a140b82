use Rattle.ring_chain_proof.proofs.Plans.{plans_in_runs, one_plan_in_runs}
use Rattle.ring_chain_proof.proofs.laws.one_plan_law.Goals as goal

pub returns-clause-reports : goal.returns-clause-reports
returns-clause-reports g c = plans_in_runs

pub returns-clause-one : goal.returns-clause-one
returns-clause-one g c = one_plan_in_runs
