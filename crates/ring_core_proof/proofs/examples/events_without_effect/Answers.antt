use Rattle.std.proofs.Common.{refl}
use Rattle.ring_base.specs.Processors.{elements}
use Rattle.ring_core_spec.specs.Stepping.{ring_step}
use Rattle.ring_core_proof.proofs.examples.events_without_effect.Goals as goal

pub returns-clause-silent : goal.returns-clause-silent
unfolding ring_step elements
returns-clause-silent c = refl

pub returns-clause-idle : goal.returns-clause-idle
unfolding ring_step elements
returns-clause-idle c = refl
