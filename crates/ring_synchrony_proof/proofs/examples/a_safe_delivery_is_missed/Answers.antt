use Rattle.std.proofs.Common.{refl}
use Rattle.std.proofs.lemmas.Bool.{false≢true}
use Rattle.ring_base.specs.Processors.{elements}
use Rattle.ring_synchrony_proof.specs.WrongLives.{left_without, never_got, never_installed}
use Rattle.ring_synchrony_proof.proofs.FactsByTests.{safely_decides}
use Rattle.ring_synchrony_proof.proofs.examples.a_safe_delivery_is_missed.Goals as goal

pub returns-clause-never_got : goal.returns-clause-never_got
unfolding elements
returns-clause-never_got c = λ h. false≢true ((safely_decides never_got).1 h)

pub returns-clause-never_installed : goal.returns-clause-never_installed
unfolding elements
returns-clause-never_installed c = λ h. false≢true ((safely_decides never_installed).1 h)

pub returns-clause-left_without : goal.returns-clause-left_without
unfolding elements
returns-clause-left_without c = λ h. false≢true ((safely_decides left_without).1 h)

pub returns-clause-others : goal.returns-clause-others
unfolding elements
returns-clause-others c = refl

pub returns-clause-others_of_left : goal.returns-clause-others_of_left
unfolding elements
returns-clause-others_of_left c = refl
