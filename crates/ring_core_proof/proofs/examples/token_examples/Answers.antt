use Rattle.std.proofs.Common.{refl}
use Rattle.ring_base.specs.Processors.{elements}
use Rattle.ring_core_spec.specs.Stepping.{ring_step}
use Rattle.ring_core_proof.proofs.examples.token_examples.Goals as goal

pub returns-clause-other_ring : goal.returns-clause-other_ring
unfolding ring_step elements
returns-clause-other_ring c = refl

pub returns-clause-in_commit : goal.returns-clause-in_commit
unfolding ring_step elements
returns-clause-in_commit c = refl

pub returns-clause-of_old_ring : goal.returns-clause-of_old_ring
unfolding ring_step elements
returns-clause-of_old_ring c = refl

pub returns-clause-sets_own : goal.returns-clause-sets_own
unfolding ring_step elements
returns-clause-sets_own c = refl

pub returns-clause-keeps_other : goal.returns-clause-keeps_other
unfolding ring_step elements
returns-clause-keeps_other c = refl

pub returns-clause-holds_back : goal.returns-clause-holds_back
unfolding ring_step elements
returns-clause-holds_back c = refl

pub returns-clause-lowers_other : goal.returns-clause-lowers_other
unfolding ring_step elements
returns-clause-lowers_other c = refl
