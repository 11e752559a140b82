-- The report of a turn's step.
-- Rules: The book and the threads 21 and 29
use Rattle.std.specs.Prelude.{ℕ, ◌≡◌, ◌≤◌, List, [], ◌∷◌, ◌++◌, Option, length}
use Rattle.ring_base.specs.Group.{Group}
use Rattle.ring_base.specs.declared.timeout_kind.Kind.{Kind}
use Rattle.ring_base.specs.declared.state.State.TheVariants.{Operational}
use Rattle.ring_object.specs.Operations.{Sequential}
use Rattle.ring_wire.specs.declared.frame.Frame.{Frame as OneFrame}
use Rattle.ring_node_spec.specs.Nodes.{Node, node_known_log, node_length}
use Rattle.ring_node_spec.specs.Worlds.{world_opening, run}
use Rattle.ring_book.specs.Lines.{IsRun, events_of, LineView, StepView, Received}
use Rattle.ring_host.specs.Tasks.{task_kind_of, input_of, ref_of}
use Rattle.ring_host.specs.declared.gate.TurnActivity.{TurnActivity}
use Rattle.ring_host.specs.declared.gate.TurnActivity.TheVariants as stirs
use Rattle.ring_host.specs.declared.inbox_frame_and_task.TaskKind.{TaskKind}
use Rattle.ring_host.specs.declared.inbox_frame_and_task.TaskKind.TheVariants as task_kind
use Rattle.ring_host.specs.declared.inbox_frame_and_task.Task.{Task}
use Rattle.ring_host.specs.declared.gated_turn.StepReport.{StepReport}

-- A step that sent `sent` frames leaves this node quiet: at most one frame, the ring installed, and all of the log
-- committed.
abbrev pub IsLeftQuiet : {A : Type 0} → Node A → ℕ → Type 0
IsLeftQuiet node sent = (sent ≤ 1) × (node.core.state ≡ Operational) × (node_length node ≡ (node_known_log node).committed)

-- The activity that a step on a task of this kind reports to a gate, by the node after it and its number of frames
-- sent. It is a timeout or a token that left the node quiet, otherwise busy.
abbrev pub IsTurnActivity : {A : Type 0} → Node A → TaskKind → ℕ → TurnActivity → Type 0
IsTurnActivity node what sent stirs.Nothing = ⊥
IsTurnActivity node what sent stirs.Timeout = (kind : Kind) × (what ≡ task_kind.Timeout kind) × IsLeftQuiet node sent
IsTurnActivity node what sent stirs.Quiet = (what ≡ task_kind.Token) × IsLeftQuiet node sent
IsTurnActivity node what sent stirs.Busy = IsLeftQuiet node sent → what ≡ task_kind.Other

-- These lines, followed by a line of this step.
abbrev pub with_step : {A : Type 0} → List (LineView A) → StepView A → List (LineView A)
with_step lines step = lines ++ record { number = length lines; step = step } ∷ []

module _ {O A : Type 0} (object : Sequential O) (group : Group) where
  -- The node's state after the run that these lines are.
  abbrev pub node_after_lines : List (LineView A) → ℕ → Node A
  node_after_lines lines node = (run object (world_opening group) (events_of lines)).nodes node

  -- The step report of a task. Some run of the group ends with a step on the task: on its timeout, or on the frame read
  -- into the place. The report has the task's kind, that step's number of frames, the node's committed length after it,
  -- and its activity.
  pub record IsStepReport (place : Option (OneFrame A)) (task : Task A) (done : StepReport) : Type 0 where
    pub lines : List (LineView A)
    pub step : StepView A
    pub is_run : IsRun object group (with_step lines step)
    pub member : (1 ≤ step.node) × (step.node ≤ group.count)
    pub input : step.input ≡ Received (input_of place task) (ref_of task)
    pub task_kind_is : done.task_kind ≡ task_kind_of place task
    pub frames : done.sent ≡ length step.frames
    pub committed : done.committed_len ≡ (node_known_log (node_after_lines (with_step lines step) step.node)).committed
    pub activity : IsTurnActivity (node_after_lines (with_step lines step) step.node) done.task_kind done.sent done.activity
