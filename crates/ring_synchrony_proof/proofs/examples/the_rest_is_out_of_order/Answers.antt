use Rattle.std.proofs.Common.{refl}
use Rattle.std.proofs.lemmas.Bool.{false≢true}
use Rattle.ring_base.specs.Processors.{elements}
use Rattle.ring_synchrony_proof.specs.WrongLives.{rest_out_of_order}
use Rattle.ring_synchrony_proof.proofs.FactsByTests.{same_text_decides}
use Rattle.ring_synchrony_proof.proofs.examples.the_rest_is_out_of_order.Goals as goal

pub returns-clause-refused : goal.returns-clause-refused
unfolding elements
returns-clause-refused c = λ h. false≢true ((same_text_decides rest_out_of_order).1 h)

pub returns-clause-others : goal.returns-clause-others
unfolding elements
returns-clause-others c = refl
