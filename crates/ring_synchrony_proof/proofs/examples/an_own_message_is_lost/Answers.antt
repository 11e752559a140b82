use Rattle.std.proofs.Common.{refl}
use Rattle.std.proofs.lemmas.Bool.{false≢true}
use Rattle.ring_base.specs.Processors.{elements}
use Rattle.ring_synchrony_proof.specs.WrongLives.{own_message_lost}
use Rattle.ring_synchrony_proof.proofs.FactsByTests.{own_all}
use Rattle.ring_synchrony_proof.proofs.examples.an_own_message_is_lost.Goals as goal

pub returns-clause-refused : goal.returns-clause-refused
unfolding elements
returns-clause-refused c = λ h. false≢true ((own_all own_message_lost).1 h)

pub returns-clause-others : goal.returns-clause-others
unfolding elements
returns-clause-others c = refl
