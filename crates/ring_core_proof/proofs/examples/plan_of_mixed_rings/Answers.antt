use Rattle.std.proofs.Common.{refl}
use Rattle.ring_base.specs.Processors.{elements}
use Rattle.ring_core_spec.specs.Stepping.{ring_step}
use Rattle.ring_core_proof.proofs.examples.plan_of_mixed_rings.Goals as goal

pub returns-clause-transitional_members : goal.returns-clause-transitional_members
unfolding ring_step elements
returns-clause-transitional_members c = refl

pub returns-clause-least_mark : goal.returns-clause-least_mark
unfolding ring_step elements
returns-clause-least_mark c = refl

pub returns-clause-safe : goal.returns-clause-safe
unfolding ring_step elements
returns-clause-safe c = refl

pub returns-clause-low : goal.returns-clause-low
unfolding ring_step elements
returns-clause-low c = refl

pub returns-clause-gap : goal.returns-clause-gap
unfolding ring_step elements
returns-clause-gap c = refl

pub returns-clause-parts : goal.returns-clause-parts
unfolding ring_step elements
returns-clause-parts c = refl
