use Rattle.std.proofs.Common.{refl}
use Rattle.ring_base.specs.Processors.{elements}
use Rattle.ring_core_spec.specs.Stepping.{ring_step}
use Rattle.ring_core_proof.proofs.examples.commit_token_examples.Goals as goal

pub returns-clause-first : goal.returns-clause-first
unfolding ring_step elements
returns-clause-first c = refl

pub returns-clause-elsewhere : goal.returns-clause-elsewhere
unfolding ring_step elements
returns-clause-elsewhere c = refl

pub returns-clause-other_members : goal.returns-clause-other_members
unfolding ring_step elements
returns-clause-other_members c = refl

pub returns-clause-not_above_floor : goal.returns-clause-not_above_floor
unfolding ring_step elements
returns-clause-not_above_floor c = refl

pub returns-clause-again : goal.returns-clause-again
unfolding ring_step elements
returns-clause-again c = refl

pub returns-clause-second : goal.returns-clause-second
unfolding ring_step elements
returns-clause-second c = refl

pub returns-clause-report_changed : goal.returns-clause-report_changed
unfolding ring_step elements
returns-clause-report_changed c = refl

pub returns-clause-sound : goal.returns-clause-sound
unfolding ring_step elements
returns-clause-sound c = refl

pub returns-clause-behind : goal.returns-clause-behind
unfolding ring_step elements
returns-clause-behind c = refl

pub returns-clause-raises_mark : goal.returns-clause-raises_mark
unfolding ring_step elements
returns-clause-raises_mark c = refl

pub returns-clause-starts : goal.returns-clause-starts
unfolding ring_step elements
returns-clause-starts c = refl

pub returns-clause-starts_once : goal.returns-clause-starts_once
unfolding ring_step elements
returns-clause-starts_once c = refl

pub returns-clause-in_operational : goal.returns-clause-in_operational
unfolding ring_step elements
returns-clause-in_operational c = refl

pub returns-clause-too_late : goal.returns-clause-too_late
unfolding ring_step elements
returns-clause-too_late c = refl

pub returns-clause-second_members : goal.returns-clause-second_members
unfolding ring_step elements
returns-clause-second_members c = refl

pub returns-clause-starts_of_members : goal.returns-clause-starts_of_members
unfolding ring_step elements
returns-clause-starts_of_members c = refl
