use Rattle.std.proofs.Common.{refl}
use Rattle.ring_base.specs.Processors.{elements}
use Rattle.ring_core_spec.specs.Stepping.{ring_step}
use Rattle.ring_core_proof.proofs.examples.message_examples.Goals as goal

pub returns-clause-taken : goal.returns-clause-taken
unfolding ring_step elements
returns-clause-taken c = refl

pub returns-clause-held : goal.returns-clause-held
unfolding ring_step elements
returns-clause-held c = refl

pub returns-clause-outsider : goal.returns-clause-outsider
unfolding ring_step elements
returns-clause-outsider c = refl

pub returns-clause-last : goal.returns-clause-last
unfolding ring_step elements
returns-clause-last c = refl

pub returns-clause-past : goal.returns-clause-past
unfolding ring_step elements
returns-clause-past c = refl

pub returns-clause-in_commit : goal.returns-clause-in_commit
unfolding ring_step elements
returns-clause-in_commit c = refl

pub returns-clause-of_old_ring : goal.returns-clause-of_old_ring
unfolding ring_step elements
returns-clause-of_old_ring c = refl

pub returns-clause-unwraps : goal.returns-clause-unwraps
unfolding ring_step elements
returns-clause-unwraps c = refl

pub returns-clause-agreed : goal.returns-clause-agreed
unfolding ring_step elements
returns-clause-agreed c = refl
