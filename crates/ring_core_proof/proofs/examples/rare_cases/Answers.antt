use Rattle.std.proofs.Common.{refl}
use Rattle.ring_base.specs.Processors.{elements}
use Rattle.ring_core_spec.specs.Stepping.{ring_step}
use Rattle.ring_core_proof.proofs.examples.rare_cases.Goals as goal

pub returns-clause-left_ring : goal.returns-clause-left_ring
unfolding ring_step elements
returns-clause-left_ring c = refl

pub returns-clause-newer_floor : goal.returns-clause-newer_floor
unfolding ring_step elements
returns-clause-newer_floor c = refl

pub returns-clause-queue : goal.returns-clause-queue
unfolding ring_step elements
returns-clause-queue c = refl

pub returns-clause-old_join : goal.returns-clause-old_join
unfolding ring_step elements
returns-clause-old_join c = refl

pub returns-clause-member_join : goal.returns-clause-member_join
unfolding ring_step elements
returns-clause-member_join c = refl

pub returns-clause-outside : goal.returns-clause-outside
unfolding ring_step elements
returns-clause-outside c = refl

pub returns-clause-outside_ignored : goal.returns-clause-outside_ignored
unfolding ring_step elements
returns-clause-outside_ignored c = refl

pub returns-clause-smaller : goal.returns-clause-smaller
unfolding ring_step elements
returns-clause-smaller c = refl

pub returns-clause-gives_up_its_judge : goal.returns-clause-gives_up_its_judge
unfolding ring_step elements
returns-clause-gives_up_its_judge c = refl

pub returns-clause-gives_up_alike : goal.returns-clause-gives_up_alike
unfolding ring_step elements
returns-clause-gives_up_alike c = refl

pub returns-clause-no_proposal : goal.returns-clause-no_proposal
unfolding ring_step elements
returns-clause-no_proposal c = refl

pub returns-clause-repeat_proposes : goal.returns-clause-repeat_proposes
unfolding ring_step elements
returns-clause-repeat_proposes c = refl

pub returns-clause-invites : goal.returns-clause-invites
unfolding ring_step elements
returns-clause-invites c = refl

pub returns-clause-invites_nobody : goal.returns-clause-invites_nobody
unfolding ring_step elements
returns-clause-invites_nobody c = refl

pub returns-clause-stopped : goal.returns-clause-stopped
unfolding ring_step elements
returns-clause-stopped c = refl
