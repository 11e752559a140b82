use Rattle.std.proofs.Common.{refl}
use Rattle.std.proofs.lemmas.Bool.{false≢true}
use Rattle.ring_base.specs.Processors.{elements}
use Rattle.ring_synchrony_proof.specs.WrongLives.{companion_left_out, joined_after_another, joined_by_an_outsider}
use Rattle.ring_synchrony_proof.proofs.FactsByTests.{configurations_decide}
use Rattle.ring_synchrony_proof.proofs.examples.companions_are_told_wrong.Goals as goal

pub returns-clause-outsider : goal.returns-clause-outsider
unfolding elements
returns-clause-outsider c = λ h. false≢true ((configurations_decide joined_by_an_outsider 1).1 (h refl))

pub returns-clause-between : goal.returns-clause-between
unfolding elements
returns-clause-between c = λ h. false≢true ((configurations_decide joined_after_another 1).1 (h refl))

pub returns-clause-left_out : goal.returns-clause-left_out
unfolding elements
returns-clause-left_out c = λ h. false≢true ((configurations_decide companion_left_out 1).1 (h refl))

pub returns-clause-others_of_outsider : goal.returns-clause-others_of_outsider
unfolding elements
returns-clause-others_of_outsider c = refl

pub returns-clause-others_of_between : goal.returns-clause-others_of_between
unfolding elements
returns-clause-others_of_between c = refl

pub returns-clause-others_of_left_out : goal.returns-clause-others_of_left_out
unfolding elements
returns-clause-others_of_left_out c = refl
