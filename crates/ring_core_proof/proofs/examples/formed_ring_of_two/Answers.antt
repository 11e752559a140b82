use Rattle.std.proofs.Common.{refl}
use Rattle.ring_base.specs.Processors.{elements}
use Rattle.ring_core_spec.specs.Stepping.{ring_step}
use Rattle.ring_core_proof.proofs.examples.formed_ring_of_two.Goals as goal

pub returns-clause-loss : goal.returns-clause-loss
unfolding ring_step elements
returns-clause-loss c = refl

pub returns-clause-idle : goal.returns-clause-idle
unfolding ring_step elements
returns-clause-idle c = refl

pub returns-clause-again : goal.returns-clause-again
unfolding ring_step elements
returns-clause-again c = refl
