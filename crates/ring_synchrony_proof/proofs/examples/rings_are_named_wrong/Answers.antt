use Rattle.std.proofs.Common.{refl}
use Rattle.std.proofs.lemmas.Bool.{false≢true}
use Rattle.ring_base.specs.Processors.{elements}
use Rattle.ring_synchrony_proof.specs.WrongLives.{named_alone, named_as_shared, ends_on_the_way}
use Rattle.ring_synchrony_proof.proofs.FactsByTests.{configurations_decide}
use Rattle.ring_synchrony_proof.proofs.examples.rings_are_named_wrong.Goals as goal

pub returns-clause-alone : goal.returns-clause-alone
unfolding elements
returns-clause-alone c = λ h. false≢true ((configurations_decide named_alone 1).1 (h refl))

pub returns-clause-shared : goal.returns-clause-shared
unfolding elements
returns-clause-shared c = λ h. false≢true ((configurations_decide named_as_shared 2).1 (h refl))

pub returns-clause-on_the_way : goal.returns-clause-on_the_way
unfolding elements
returns-clause-on_the_way c = λ h. false≢true ((configurations_decide ends_on_the_way 1).1 (h refl))

pub returns-clause-others_of_alone : goal.returns-clause-others_of_alone
unfolding elements
returns-clause-others_of_alone c = refl

pub returns-clause-others_of_shared : goal.returns-clause-others_of_shared
unfolding elements
returns-clause-others_of_shared c = refl

pub returns-clause-others_of_on_the_way : goal.returns-clause-others_of_on_the_way
unfolding elements
returns-clause-others_of_on_the_way c = refl
