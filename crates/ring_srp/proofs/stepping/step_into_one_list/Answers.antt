-- The frames, and the other outputs after them, are the outputs of the step.
use Rattle.std.proofs.lemmas.Result.{IfOk-weaker}
use Rattle.ring_base.proofs.Results.{ok_always}
use Rattle.ring_srp.proofs.StepOutputs.{joined_outs}
use Rattle.ring_srp.proofs.stepping.step_into_one_list.Goals as goal

pub returns-clause-outs : goal.returns-clause-outs
returns-clause-outs g c = IfOk-weaker c.concatenate_outputs.result _ _ (λ outs h. joined_outs _ outs.items _ _ c.in_ok-other_outputs.ensures.given h) c.concatenate_outputs.ensures.ok

pub returns-clause-core : goal.returns-clause-core
returns-clause-core g c = ok_always c.concatenate_outputs.result c.in_ok-other_outputs.ensures.core
