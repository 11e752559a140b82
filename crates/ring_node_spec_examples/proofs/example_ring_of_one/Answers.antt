use Rattle.std.proofs.Common.{refl}
use Rattle.ring_base.specs.Processors.{elements}
use Rattle.ring_core_spec.specs.Stepping.{ring_step}
use Rattle.ring_node_spec_examples.proofs.example_ring_of_one.Goals as goal

pub returns-clause-sent : goal.returns-clause-sent
unfolding ring_step elements
returns-clause-sent c = refl

pub returns-clause-answered : goal.returns-clause-answered
unfolding ring_step elements
returns-clause-answered c = refl

pub returns-clause-told : goal.returns-clause-told
unfolding ring_step elements
returns-clause-told c = refl

pub returns-clause-ordered : goal.returns-clause-ordered
unfolding ring_step elements
returns-clause-ordered c = refl

pub returns-clause-waiting : goal.returns-clause-waiting
unfolding ring_step elements
returns-clause-waiting c = refl

pub returns-clause-reply : goal.returns-clause-reply
unfolding ring_step elements
returns-clause-reply c = refl

pub returns-clause-undone : goal.returns-clause-undone
unfolding ring_step elements
returns-clause-undone c = refl

pub returns-clause-done : goal.returns-clause-done
unfolding ring_step elements
returns-clause-done c = refl

pub returns-clause-untold : goal.returns-clause-untold
unfolding ring_step elements
returns-clause-untold c = refl

pub returns-clause-submitted : goal.returns-clause-submitted
unfolding ring_step elements
returns-clause-submitted c = refl

pub returns-clause-replied : goal.returns-clause-replied
unfolding ring_step elements
returns-clause-replied c = refl

pub returns-clause-unordered : goal.returns-clause-unordered
unfolding ring_step elements
returns-clause-unordered c = refl
