use Rattle.std.proofs.Common.{refl}
use Rattle.ring_base.specs.Processors.{elements}
use Rattle.ring_core_spec.specs.Stepping.{ring_step}
use Rattle.ring_core_proof.proofs.examples.three_gather.Goals as goal

pub returns-clause-frames : goal.returns-clause-frames
unfolding ring_step elements
returns-clause-frames c = refl

pub returns-clause-states : goal.returns-clause-states
unfolding ring_step elements
returns-clause-states c = refl
