use Rattle.std.proofs.Common.{refl}
use Rattle.ring_base.specs.Processors.{elements}
use Rattle.ring_core_spec.specs.Stepping.{ring_step}
use Rattle.ring_synchrony_proof.proofs.examples.worked_changes.Goals as goal

pub returns-clause-two : goal.returns-clause-two
unfolding ring_step elements
returns-clause-two c = refl

pub returns-clause-three : goal.returns-clause-three
unfolding ring_step elements
returns-clause-three c = refl

pub returns-clause-one : goal.returns-clause-one
unfolding ring_step elements
returns-clause-one c = refl

pub returns-clause-right : goal.returns-clause-right
unfolding ring_step elements
returns-clause-right c = refl
