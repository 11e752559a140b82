use Rattle.std.proofs.Common.{refl}
use Rattle.ring_base.specs.Processors.{elements}
use Rattle.ring_core_spec.specs.Stepping.{ring_step}
use Rattle.ring_core_proof.proofs.examples.token_asks_for_messages.Goals as goal

pub returns-clause-asks : goal.returns-clause-asks
unfolding ring_step elements
returns-clause-asks c = refl

pub returns-clause-again_outs : goal.returns-clause-again_outs
unfolding ring_step elements
returns-clause-again_outs c = refl

pub returns-clause-again_core : goal.returns-clause-again_core
unfolding ring_step elements
returns-clause-again_core c = refl

pub returns-clause-sends_again : goal.returns-clause-sends_again
unfolding ring_step elements
returns-clause-sends_again c = refl
