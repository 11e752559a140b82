use Rattle.std.proofs.Common.{refl}
use Rattle.std.proofs.lemmas.Bool.{false≢true}
use Rattle.ring_base.specs.Processors.{elements}
use Rattle.ring_synchrony_proof.specs.WrongLives.{named_apart, names_a_stranger}
use Rattle.ring_synchrony_proof.proofs.FactsByTests.{configurations_decide}
use Rattle.ring_synchrony_proof.proofs.examples.members_are_named_wrong.Goals as goal

pub returns-clause-apart : goal.returns-clause-apart
unfolding elements
returns-clause-apart c = λ h. false≢true ((configurations_decide named_apart 1).1 (h refl))

pub returns-clause-stranger : goal.returns-clause-stranger
unfolding elements
returns-clause-stranger c = λ h. false≢true ((configurations_decide names_a_stranger 1).1 (h refl))

pub returns-clause-others_of_apart : goal.returns-clause-others_of_apart
unfolding elements
returns-clause-others_of_apart c = refl

pub returns-clause-others_of_stranger : goal.returns-clause-others_of_stranger
unfolding elements
returns-clause-others_of_stranger c = refl
