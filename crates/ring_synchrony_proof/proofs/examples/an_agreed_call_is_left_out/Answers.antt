use Rattle.std.proofs.Common.{refl}
use Rattle.std.proofs.lemmas.Bool.{false≢true}
use Rattle.ring_base.specs.Processors.{elements}
use Rattle.ring_synchrony_proof.specs.WrongLives.{agreed_left_out}
use Rattle.ring_synchrony_proof.proofs.FactsByTests.{same_text_decides}
use Rattle.ring_synchrony_proof.proofs.examples.an_agreed_call_is_left_out.Goals as goal

pub returns-clause-refused : goal.returns-clause-refused
unfolding elements
returns-clause-refused c = λ h. false≢true ((same_text_decides agreed_left_out).1 h)

pub returns-clause-others : goal.returns-clause-others
unfolding elements
returns-clause-others c = refl
