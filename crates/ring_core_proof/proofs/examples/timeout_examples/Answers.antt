use Rattle.std.proofs.Common.{refl}
use Rattle.ring_base.specs.Processors.{elements}
use Rattle.ring_core_spec.specs.Stepping.{ring_step}
use Rattle.ring_core_proof.proofs.examples.timeout_examples.Goals as goal

pub returns-clause-lost : goal.returns-clause-lost
unfolding ring_step elements
returns-clause-lost c = refl

pub returns-clause-waits : goal.returns-clause-waits
unfolding ring_step elements
returns-clause-waits c = refl

pub returns-clause-silent_in_commit : goal.returns-clause-silent_in_commit
unfolding ring_step elements
returns-clause-silent_in_commit c = refl

pub returns-clause-nothing_shown : goal.returns-clause-nothing_shown
unfolding ring_step elements
returns-clause-nothing_shown c = refl

pub returns-clause-shows_again : goal.returns-clause-shows_again
unfolding ring_step elements
returns-clause-shows_again c = refl

pub returns-clause-shows_no_more : goal.returns-clause-shows_no_more
unfolding ring_step elements
returns-clause-shows_no_more c = refl
