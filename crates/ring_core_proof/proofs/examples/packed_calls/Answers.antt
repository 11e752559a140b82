use Rattle.std.proofs.Common.{refl}
use Rattle.ring_base.specs.Processors.{elements}
use Rattle.ring_core_spec.specs.Stepping.{ring_step}
use Rattle.ring_core_proof.proofs.examples.packed_calls.Goals as goal

pub returns-clause-nine : goal.returns-clause-nine
unfolding ring_step elements
returns-clause-nine c = refl

pub returns-clause-nine_outs : goal.returns-clause-nine_outs
unfolding ring_step elements
returns-clause-nine_outs c = refl

pub returns-clause-one : goal.returns-clause-one
unfolding ring_step elements
returns-clause-one c = refl

pub returns-clause-sixteen : goal.returns-clause-sixteen
unfolding ring_step elements
returns-clause-sixteen c = refl

pub returns-clause-seventeen : goal.returns-clause-seventeen
unfolding ring_step elements
returns-clause-seventeen c = refl

pub returns-clause-long : goal.returns-clause-long
unfolding ring_step elements
returns-clause-long c = refl

pub returns-clause-greatest : goal.returns-clause-greatest
unfolding ring_step elements
returns-clause-greatest c = refl

pub returns-clause-past_greatest : goal.returns-clause-past_greatest
unfolding ring_step elements
returns-clause-past_greatest c = refl

pub returns-clause-around : goal.returns-clause-around
unfolding ring_step elements
returns-clause-around c = refl

pub returns-clause-batch : goal.returns-clause-batch
unfolding ring_step elements
returns-clause-batch c = refl

pub returns-clause-left_over : goal.returns-clause-left_over
unfolding ring_step elements
returns-clause-left_over c = refl

pub returns-clause-window : goal.returns-clause-window
unfolding ring_step elements
returns-clause-window c = refl

pub returns-clause-wraps : goal.returns-clause-wraps
unfolding ring_step elements
returns-clause-wraps c = refl

pub returns-clause-unwraps : goal.returns-clause-unwraps
unfolding ring_step elements
returns-clause-unwraps c = refl
