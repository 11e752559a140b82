use Rattle.std.proofs.Common.{refl}
use Rattle.ring_base.specs.Processors.{elements}
use Rattle.ring_core_spec.specs.Stepping.{ring_step}
use Rattle.ring_core_proof.proofs.examples.join_examples.Goals as goal

pub returns-clause-own : goal.returns-clause-own
unfolding ring_step elements
returns-clause-own c = refl

pub returns-clause-silent_given_up : goal.returns-clause-silent_given_up
unfolding ring_step elements
returns-clause-silent_given_up c = refl

pub returns-clause-same : goal.returns-clause-same
unfolding ring_step elements
returns-clause-same c = refl

pub returns-clause-smaller : goal.returns-clause-smaller
unfolding ring_step elements
returns-clause-smaller c = refl

pub returns-clause-wider : goal.returns-clause-wider
unfolding ring_step elements
returns-clause-wider c = refl

pub returns-clause-agrees_at_once : goal.returns-clause-agrees_at_once
unfolding ring_step elements
returns-clause-agrees_at_once c = refl

pub returns-clause-falls_back : goal.returns-clause-falls_back
unfolding ring_step elements
returns-clause-falls_back c = refl

pub returns-clause-next_number : goal.returns-clause-next_number
unfolding ring_step elements
returns-clause-next_number c = refl

pub returns-clause-floor_counts : goal.returns-clause-floor_counts
unfolding ring_step elements
returns-clause-floor_counts c = refl

pub returns-clause-gives_up : goal.returns-clause-gives_up
unfolding ring_step elements
returns-clause-gives_up c = refl

pub returns-clause-then_proposes : goal.returns-clause-then_proposes
unfolding ring_step elements
returns-clause-then_proposes c = refl

pub returns-clause-in_commit : goal.returns-clause-in_commit
unfolding ring_step elements
returns-clause-in_commit c = refl

pub returns-clause-old_in_commit : goal.returns-clause-old_in_commit
unfolding ring_step elements
returns-clause-old_in_commit c = refl

pub returns-clause-stopped : goal.returns-clause-stopped
unfolding ring_step elements
returns-clause-stopped c = refl
