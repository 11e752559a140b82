-- The promises of `submit` and `stop`.
-- Rules: The book and the threads 15, 24 and 25
use Rattle.std.specs.Prelude.{ℕ, ◌≡◌, ◌≤◌, ◌+◌, List, length}
use Rattle.ring_base.specs.Group.{Group}
use Rattle.ring_object.specs.Operations.{Sequential}
use Rattle.ring_payload.specs.declared.call.Call.{Call}
use Rattle.ring_node_spec.specs.declared.input.Input.TheVariants.{Stop}
use Rattle.ring_book_lines.specs.declared.frame_ref.FrameRef.{FrameRef}
use Rattle.ring_book.specs.Lines.{IsRun, LineView, StepView, Submitted, Received, steps_of, calls_of}
use Rattle.ring_host.specs.Steps.{with_step}

-- Some run of the group ends with the issue of this call at the node, and the ticket is the index of this call, from 0,
-- among all calls that the run issues there.
pub record IsSubmitted {O A : Type 0} (object : Sequential O) (group : Group) (node : ℕ) (call : Call A) (ticket : ℕ) : Type 0 where
  pub lines : List (LineView A)
  pub step : StepView A
  pub is_run : IsRun object group (with_step lines step)
  pub member : (1 ≤ node) × (node ≤ group.count)
  pub step_node : step.node ≡ node
  pub issue : step.input ≡ Submitted call
  pub calls : length (calls_of (steps_of node (with_step lines step))) ≡ ticket + 1

-- Some run of the group ends with the stop of the node.
pub record IsStopped (A : Type 0) {O : Type 0} (object : Sequential O) (group : Group) (node : ℕ) : Type 0 where
  pub lines : List (LineView A)
  pub step : StepView A
  pub is_run : IsRun object group (with_step lines step)
  pub member : (1 ≤ node) × (node ≤ group.count)
  pub step_node : step.node ≡ node
  pub at : FrameRef
  pub stop : step.input ≡ Received Stop at
