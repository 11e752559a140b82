use Rattle.std.proofs.Common.{refl}
use Rattle.ring_base.specs.Processors.{elements}
use Rattle.ring_order_proof.proofs.wrong_snapshot_example.a_dropped_call_is_forgotten.Goals as goal

pub returns-clause-dropped : goal.returns-clause-dropped
unfolding elements
returns-clause-dropped g c = refl

pub returns-clause-snapshot : goal.returns-clause-snapshot
unfolding elements
returns-clause-snapshot g c = refl

pub returns-clause-refused : goal.returns-clause-refused
unfolding elements
returns-clause-refused g c = λ follows. (let none = follows.stands.1 in let n : ⊥ = cc none in n)
