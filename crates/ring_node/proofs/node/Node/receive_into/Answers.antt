-- The outputs of the step are returned here.
use Rattle.ring_base.proofs.Results.{on-ok}
use Rattle.ring_node.specs.StepOutputs.{IsNodeStepResult}
use Rattle.ring_node.proofs.node.Node.receive_into.Goals as goal

pub returns-clause-sends : goal.returns-clause-sends
returns-clause-sends g c = on-ok c.step_on_frame.result _ _ (λ (k : IsNodeStepResult _ _ _ _). k.sends) c.step_on_frame.ensures.ok

pub returns-clause-answers : goal.returns-clause-answers
returns-clause-answers g c = on-ok c.step_on_frame.result _ _ (λ (k : IsNodeStepResult _ _ _ _). k.answers) c.step_on_frame.ensures.ok

pub returns-clause-committed : goal.returns-clause-committed
returns-clause-committed g c = on-ok c.step_on_frame.result _ _ (λ (k : IsNodeStepResult _ _ _ _). k.committed) c.step_on_frame.ensures.ok

pub returns-clause-dropped : goal.returns-clause-dropped
returns-clause-dropped g c = on-ok c.step_on_frame.result _ _ (λ (k : IsNodeStepResult _ _ _ _). k.dropped) c.step_on_frame.ensures.ok

pub returns-clause-restored : goal.returns-clause-restored
returns-clause-restored g c = on-ok c.step_on_frame.result _ _ (λ (k : IsNodeStepResult _ _ _ _). k.restored) c.step_on_frame.ensures.ok

pub returns-clause-ok : goal.returns-clause-ok
returns-clause-ok g c = on-ok c.step_on_frame.result _ _ (λ (k : IsNodeStepResult _ _ _ _). k.node) c.step_on_frame.ensures.ok
