-- Whether a ring is primary is computed with the list of its members.
use Rattle.std.proofs.Common.{refl}
use Rattle.ring_base.specs.Processors.{elements}
use Rattle.ring_log.proofs.examples.logs_over_epochs.Goals as goal

pub returns-clause-first_end : goal.returns-clause-first_end
unfolding elements
returns-clause-first_end c = refl

pub returns-clause-first_log : goal.returns-clause-first_log
unfolding elements
returns-clause-first_log c = refl

pub returns-clause-agreed : goal.returns-clause-agreed
unfolding elements
returns-clause-agreed c = refl

pub returns-clause-safe : goal.returns-clause-safe
unfolding elements
returns-clause-safe c = refl

pub returns-clause-alone_log : goal.returns-clause-alone_log
unfolding elements
returns-clause-alone_log c = refl

pub returns-clause-alone_head : goal.returns-clause-alone_head
unfolding elements
returns-clause-alone_head c = refl

pub returns-clause-second_end : goal.returns-clause-second_end
unfolding elements
returns-clause-second_end c = refl

pub returns-clause-second_log : goal.returns-clause-second_log
unfolding elements
returns-clause-second_log c = refl

pub returns-clause-second_last : goal.returns-clause-second_last
unfolding elements
returns-clause-second_last c = refl

pub returns-clause-kept : goal.returns-clause-kept
unfolding elements
returns-clause-kept c = refl

pub returns-clause-base : goal.returns-clause-base
unfolding elements
returns-clause-base c = refl

pub returns-clause-all : goal.returns-clause-all
unfolding elements
returns-clause-all c = refl

pub returns-clause-adopted : goal.returns-clause-adopted
unfolding elements
returns-clause-adopted c = refl

pub returns-clause-not_primary : goal.returns-clause-not_primary
unfolding elements
returns-clause-not_primary c = refl

pub returns-clause-sound : goal.returns-clause-sound
unfolding elements
returns-clause-sound c = refl
