use Rattle.std.proofs.Common.{refl}
use Rattle.std.proofs.lemmas.Bool.{false≢true}
use Rattle.ring_base.specs.Processors.{elements}
use Rattle.ring_synchrony_proof.specs.WrongLives.{safe_falls}
use Rattle.ring_synchrony_proof.proofs.FactsByTests.{configurations_decide}
use Rattle.ring_synchrony_proof.proofs.examples.what_is_safe_falls.Goals as goal

pub returns-clause-refused : goal.returns-clause-refused
unfolding elements
returns-clause-refused c = λ h. false≢true ((configurations_decide safe_falls 1).1 (h refl))

pub returns-clause-others : goal.returns-clause-others
unfolding elements
returns-clause-others c = refl
