use Rattle.std.proofs.Common.{refl}
use Rattle.ring_base.specs.Processors.{elements}
use Rattle.ring_core_spec.specs.Stepping.{ring_step}
use Rattle.ring_core_proof.proofs.examples.plan_of_two.Goals as goal

pub returns-clause-low : goal.returns-clause-low
unfolding ring_step elements
returns-clause-low c = refl

pub returns-clause-gap : goal.returns-clause-gap
unfolding ring_step elements
returns-clause-gap c = refl

pub returns-clause-first_wraps : goal.returns-clause-first_wraps
unfolding ring_step elements
returns-clause-first_wraps c = refl

pub returns-clause-second_wraps : goal.returns-clause-second_wraps
unfolding ring_step elements
returns-clause-second_wraps c = refl

pub returns-clause-not_yet : goal.returns-clause-not_yet
unfolding ring_step elements
returns-clause-not_yet c = refl

pub returns-clause-then : goal.returns-clause-then
unfolding ring_step elements
returns-clause-then c = refl

pub returns-clause-installs : goal.returns-clause-installs
unfolding ring_step elements
returns-clause-installs c = refl

pub returns-clause-waits : goal.returns-clause-waits
unfolding ring_step elements
returns-clause-waits c = refl

pub returns-clause-first_gives : goal.returns-clause-first_gives
unfolding ring_step elements
returns-clause-first_gives c = refl

pub returns-clause-second_gives : goal.returns-clause-second_gives
unfolding ring_step elements
returns-clause-second_gives c = refl
