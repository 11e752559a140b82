use Rattle.std.proofs.Common.{refl}
use Rattle.ring_base.specs.Processors.{elements}
use Rattle.ring_core_spec.specs.Stepping.{ring_step}
use Rattle.ring_node_spec_examples.proofs.example_refused_submits.Goals as goal

pub returns-clause-full : goal.returns-clause-full
unfolding ring_step elements
returns-clause-full c = refl

pub returns-clause-stopped : goal.returns-clause-stopped
unfolding ring_step elements
returns-clause-stopped c = refl

pub returns-clause-strange : goal.returns-clause-strange
unfolding ring_step elements
returns-clause-strange c = refl

pub returns-clause-unsubmitted : goal.returns-clause-unsubmitted
unfolding ring_step elements
returns-clause-unsubmitted c = refl

pub returns-clause-silent : goal.returns-clause-silent
unfolding ring_step elements
returns-clause-silent c = refl

pub returns-clause-unchanged : goal.returns-clause-unchanged
unfolding ring_step elements
returns-clause-unchanged c = refl
