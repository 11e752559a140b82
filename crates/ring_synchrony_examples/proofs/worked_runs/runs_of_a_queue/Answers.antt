use Rattle.std.proofs.Common.{refl}
use Rattle.ring_base.specs.Processors.{elements}
use Rattle.ring_core_spec.specs.Stepping.{ring_step}
use Rattle.ring_synchrony_examples.proofs.worked_runs.runs_of_a_queue.Goals as goal

pub returns-clause-around : goal.returns-clause-around
unfolding ring_step elements
returns-clause-around c = refl

pub returns-clause-alone : goal.returns-clause-alone
unfolding ring_step elements
returns-clause-alone c = refl

pub returns-clause-next : goal.returns-clause-next
unfolding ring_step elements
returns-clause-next c = refl
