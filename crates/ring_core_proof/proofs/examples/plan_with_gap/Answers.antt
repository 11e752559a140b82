use Rattle.std.proofs.Common.{refl}
use Rattle.ring_base.specs.Processors.{elements}
use Rattle.ring_core_spec.specs.Stepping.{ring_step}
use Rattle.ring_core_proof.proofs.examples.plan_with_gap.Goals as goal

pub returns-clause-transitional_members : goal.returns-clause-transitional_members
unfolding ring_step elements
returns-clause-transitional_members c = refl

pub returns-clause-gap : goal.returns-clause-gap
unfolding ring_step elements
returns-clause-gap c = refl

pub returns-clause-parts : goal.returns-clause-parts
unfolding ring_step elements
returns-clause-parts c = refl

pub returns-clause-gives : goal.returns-clause-gives
unfolding ring_step elements
returns-clause-gives c = refl
