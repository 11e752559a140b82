use Rattle.std.proofs.Common.{refl}
use Rattle.std.proofs.lemmas.Bool.{false≢true}
use Rattle.ring_base.specs.Processors.{elements}
use Rattle.ring_synchrony_proof.specs.WrongLives.{agreed_as_another, rest_as_another}
use Rattle.ring_synchrony_proof.proofs.FactsByTests.{configurations_decide}
use Rattle.ring_synchrony_proof.proofs.examples.a_call_is_told_as_another.Goals as goal

pub returns-clause-agreed : goal.returns-clause-agreed
unfolding elements
returns-clause-agreed c = λ h. false≢true ((configurations_decide agreed_as_another 1).1 (h refl))

pub returns-clause-rest : goal.returns-clause-rest
unfolding elements
returns-clause-rest c = λ h. false≢true ((configurations_decide rest_as_another 1).1 (h refl))

pub returns-clause-others_of_agreed : goal.returns-clause-others_of_agreed
unfolding elements
returns-clause-others_of_agreed c = refl

pub returns-clause-others_of_rest : goal.returns-clause-others_of_rest
unfolding elements
returns-clause-others_of_rest c = refl
