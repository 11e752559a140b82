use Rattle.std.proofs.Common.{refl}
use Rattle.ring_base.specs.Processors.{elements}
use Rattle.ring_core_spec.specs.Stepping.{ring_step}
use Rattle.ring_core_proof.proofs.changes.two_change_rings.Goals as goal

pub returns-clause-frames : goal.returns-clause-frames
unfolding ring_step elements
returns-clause-frames c = refl

pub returns-clause-first_life : goal.returns-clause-first_life
unfolding ring_step elements
returns-clause-first_life c = refl

pub returns-clause-second_life : goal.returns-clause-second_life
unfolding ring_step elements
returns-clause-second_life c = refl

pub returns-clause-first_told : goal.returns-clause-first_told
unfolding ring_step elements
returns-clause-first_told c = refl

pub returns-clause-second_told : goal.returns-clause-second_told
unfolding ring_step elements
returns-clause-second_told c = refl

pub returns-clause-delivered : goal.returns-clause-delivered
unfolding ring_step elements
returns-clause-delivered c = refl

pub returns-clause-text : goal.returns-clause-text
unfolding ring_step elements
returns-clause-text c = refl

pub returns-clause-taken : goal.returns-clause-taken
unfolding ring_step elements
returns-clause-taken c = refl

pub returns-clause-rounds : goal.returns-clause-rounds
unfolding ring_step elements
returns-clause-rounds c = record { rings = refl; hops = refl; members = refl; taken = refl; once = refl }
