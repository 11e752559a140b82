use Rattle.std.proofs.Common.{refl}
use Rattle.ring_base.specs.Processors.{elements}
use Rattle.ring_core_spec.specs.Stepping.{ring_step}
use Rattle.ring_core_proof.proofs.examples.examples_at_limits.Goals as goal

pub returns-clause-window : goal.returns-clause-window
unfolding ring_step elements
returns-clause-window c = refl

pub returns-clause-left_over : goal.returns-clause-left_over
unfolding ring_step elements
returns-clause-left_over c = refl

pub returns-clause-batch : goal.returns-clause-batch
unfolding ring_step elements
returns-clause-batch c = refl

pub returns-clause-requests : goal.returns-clause-requests
unfolding ring_step elements
returns-clause-requests c = refl

pub returns-clause-old_request : goal.returns-clause-old_request
unfolding ring_step elements
returns-clause-old_request c = refl

pub returns-clause-message : goal.returns-clause-message
unfolding ring_step elements
returns-clause-message c = refl

pub returns-clause-token_below : goal.returns-clause-token_below
unfolding ring_step elements
returns-clause-token_below c = refl

pub returns-clause-token_greatest : goal.returns-clause-token_greatest
unfolding ring_step elements
returns-clause-token_greatest c = refl

pub returns-clause-token_behind : goal.returns-clause-token_behind
unfolding ring_step elements
returns-clause-token_behind c = refl

pub returns-clause-ring_below : goal.returns-clause-ring_below
unfolding ring_step elements
returns-clause-ring_below c = refl

pub returns-clause-ring_greatest : goal.returns-clause-ring_greatest
unfolding ring_step elements
returns-clause-ring_greatest c = refl

pub returns-clause-named : goal.returns-clause-named
unfolding ring_step elements
returns-clause-named c = refl
