use Rattle.std.proofs.Common.{refl}
use Rattle.ring_base.specs.Processors.{elements}
use Rattle.ring_core_spec.specs.Stepping.{ring_step}
use Rattle.ring_node_spec_examples.proofs.submitted_again.Goals as goal

pub returns-clause-waiting : goal.returns-clause-waiting
unfolding ring_step elements
returns-clause-waiting c = refl

pub returns-clause-pending : goal.returns-clause-pending
unfolding ring_step elements
returns-clause-pending c = refl

pub returns-clause-done : goal.returns-clause-done
unfolding ring_step elements
returns-clause-done c = refl

pub returns-clause-told : goal.returns-clause-told
unfolding ring_step elements
returns-clause-told c = refl

pub returns-clause-ordered : goal.returns-clause-ordered
unfolding ring_step elements
returns-clause-ordered c = refl

pub returns-clause-answered : goal.returns-clause-answered
unfolding ring_step elements
returns-clause-answered c = refl

pub returns-clause-history : goal.returns-clause-history
unfolding ring_step elements
returns-clause-history c = refl
