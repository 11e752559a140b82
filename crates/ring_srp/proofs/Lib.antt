-- Allowed: The conditions of a transition were tested when it was chosen.
-- SafeInFront: No transition raises the safe mark of the installed ring above its front before the step.
-- StepOutputs: The sends and outputs of the pieces of a step, one after another, are those of the step.
-- PayloadSent: A payload to send is queued or dropped, and the step has no outputs.
-- StoppedCore: The step of a stopped core has no outputs and changes nothing.
-- Stopping: A core that hasn't stopped is the running one.
pub mod Allowed
pub mod SafeInFront
pub mod StepOutputs
pub mod PayloadSent
pub mod StoppedCore
pub mod Stopping
