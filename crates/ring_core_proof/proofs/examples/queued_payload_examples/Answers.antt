use Rattle.std.proofs.Common.{refl}
use Rattle.ring_base.specs.Processors.{elements}
use Rattle.ring_core_spec.specs.Stepping.{ring_step}
use Rattle.ring_core_proof.proofs.examples.queued_payload_examples.Goals as goal

pub returns-clause-queued : goal.returns-clause-queued
unfolding ring_step elements
returns-clause-queued c = refl

pub returns-clause-end : goal.returns-clause-end
unfolding ring_step elements
returns-clause-end c = refl

pub returns-clause-wrapped : goal.returns-clause-wrapped
unfolding ring_step elements
returns-clause-wrapped c = refl

pub returns-clause-packed_payloads : goal.returns-clause-packed_payloads
unfolding ring_step elements
returns-clause-packed_payloads c = refl

pub returns-clause-piece : goal.returns-clause-piece
unfolding ring_step elements
returns-clause-piece c = refl

pub returns-clause-in_gather : goal.returns-clause-in_gather
unfolding ring_step elements
returns-clause-in_gather c = refl

pub returns-clause-in_recovery : goal.returns-clause-in_recovery
unfolding ring_step elements
returns-clause-in_recovery c = refl
