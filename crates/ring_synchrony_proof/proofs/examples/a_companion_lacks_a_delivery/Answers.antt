use Rattle.std.proofs.Common.{refl}
use Rattle.std.proofs.lemmas.Bool.{false≢true}
use Rattle.ring_base.specs.Processors.{elements}
use Rattle.ring_synchrony_proof.specs.WrongLives.{lacks_delivery}
use Rattle.ring_synchrony_proof.proofs.FactsByTests.{alike_all}
use Rattle.ring_synchrony_proof.proofs.examples.a_companion_lacks_a_delivery.Goals as goal

pub returns-clause-refused : goal.returns-clause-refused
unfolding elements
returns-clause-refused c = λ h. false≢true ((alike_all lacks_delivery).1 h)

pub returns-clause-others : goal.returns-clause-others
unfolding elements
returns-clause-others c = refl
