use Rattle.std.proofs.Common.{refl}
use Rattle.ring_base.specs.Processors.{elements}
use Rattle.ring_log_proof.proofs.WorkedFacts.{three-facts, three-discipline}
use Rattle.ring_log_proof.proofs.examples.epochs_of_three.Goals as goal

pub returns-clause-facts : goal.returns-clause-facts
returns-clause-facts c = three-facts

pub returns-clause-discipline : goal.returns-clause-discipline
returns-clause-discipline c = three-discipline

pub returns-clause-log_of_one : goal.returns-clause-log_of_one
unfolding elements
returns-clause-log_of_one c = refl

pub returns-clause-log_of_two : goal.returns-clause-log_of_two
unfolding elements
returns-clause-log_of_two c = refl

pub returns-clause-last_of_two : goal.returns-clause-last_of_two
unfolding elements
returns-clause-last_of_two c = refl

pub returns-clause-committed_of_one : goal.returns-clause-committed_of_one
unfolding elements
returns-clause-committed_of_one c = refl

pub returns-clause-committed_of_two : goal.returns-clause-committed_of_two
unfolding elements
returns-clause-committed_of_two c = refl

pub returns-clause-committed_of_three : goal.returns-clause-committed_of_three
unfolding elements
returns-clause-committed_of_three c = refl

pub returns-clause-end : goal.returns-clause-end
unfolding elements
returns-clause-end c = refl

pub returns-clause-log : goal.returns-clause-log
unfolding elements
returns-clause-log c = refl
