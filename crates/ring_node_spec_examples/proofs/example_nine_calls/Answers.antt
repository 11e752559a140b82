use Rattle.std.proofs.Common.{refl}
use Rattle.ring_base.specs.Processors.{elements}
use Rattle.ring_core_spec.specs.Stepping.{ring_step}
use Rattle.ring_node_spec_examples.proofs.example_nine_calls.Goals as goal

pub returns-clause-sent : goal.returns-clause-sent
unfolding ring_step elements
returns-clause-sent c = refl

pub returns-clause-answered : goal.returns-clause-answered
unfolding ring_step elements
returns-clause-answered c = refl

pub returns-clause-told : goal.returns-clause-told
unfolding ring_step elements
returns-clause-told c = refl

pub returns-clause-ordered : goal.returns-clause-ordered
unfolding ring_step elements
returns-clause-ordered c = refl

pub returns-clause-answers : goal.returns-clause-answers
unfolding ring_step elements
returns-clause-answers c = refl
