use Rattle.std.proofs.Common.{refl}
use Rattle.ring_base.specs.Processors.{elements}
use Rattle.ring_core_spec.specs.Stepping.{ring_step}
use Rattle.ring_core_proof.proofs.examples.window_with_holes.Goals as goal

pub returns-clause-front : goal.returns-clause-front
unfolding ring_step elements
returns-clause-front c = refl

pub returns-clause-report : goal.returns-clause-report
unfolding ring_step elements
returns-clause-report c = refl

pub returns-clause-outside : goal.returns-clause-outside
unfolding ring_step elements
returns-clause-outside c = refl

pub returns-clause-inside : goal.returns-clause-inside
unfolding ring_step elements
returns-clause-inside c = refl

pub returns-clause-last : goal.returns-clause-last
unfolding ring_step elements
returns-clause-last c = refl

pub returns-clause-past : goal.returns-clause-past
unfolding ring_step elements
returns-clause-past c = refl

pub returns-clause-later_report : goal.returns-clause-later_report
unfolding ring_step elements
returns-clause-later_report c = refl
