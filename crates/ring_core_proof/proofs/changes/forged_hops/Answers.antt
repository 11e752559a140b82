use Rattle.std.proofs.Common.{refl}
use Rattle.std.proofs.lemmas.Bool.{false≢true}
use Rattle.ring_base.specs.Processors.{elements}
use Rattle.ring_core_spec.specs.Stepping.{ring_step}
use Rattle.ring_core_proof.proofs.changes.forged_hops.Goals as goal

pub returns-clause-unproposed : goal.returns-clause-unproposed
unfolding ring_step elements
returns-clause-unproposed c = λ rounds. false≢true rounds.hops

pub returns-clause-misnamed : goal.returns-clause-misnamed
unfolding ring_step elements
returns-clause-misnamed c = λ rounds. false≢true rounds.members

pub returns-clause-taken : goal.returns-clause-taken
unfolding ring_step elements
returns-clause-taken c = refl

pub returns-clause-taken_by_outsider : goal.returns-clause-taken_by_outsider
unfolding ring_step elements
returns-clause-taken_by_outsider c = refl
