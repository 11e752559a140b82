use Rattle.std.proofs.Common.{refl}
use Rattle.ring_base.specs.Processors.{elements}
use Rattle.ring_core_spec.specs.Stepping.{ring_step}
use Rattle.ring_core_proof.proofs.examples.safe_marks.Goals as goal

pub returns-clause-first : goal.returns-clause-first
unfolding ring_step elements
returns-clause-first c = refl

pub returns-clause-second : goal.returns-clause-second
unfolding ring_step elements
returns-clause-second c = refl

pub returns-clause-third : goal.returns-clause-third
unfolding ring_step elements
returns-clause-third c = refl

pub returns-clause-fourth : goal.returns-clause-fourth
unfolding ring_step elements
returns-clause-fourth c = refl
