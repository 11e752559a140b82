use Rattle.std.proofs.Common.{refl}
use Rattle.ring_base.specs.Processors.{elements}
use Rattle.ring_core_spec.specs.Stepping.{ring_step}
use Rattle.ring_synchrony_examples.proofs.synchrony_of_schedules.schedule_of_six_is_synchronous.Goals as goal

pub returns : goal.returns
unfolding ring_step elements
returns c = refl
